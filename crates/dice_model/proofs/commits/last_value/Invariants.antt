use Rattle.std.proofs.Common.{◌≡◌, drop}
use Rattle.std.specs.Arc.{arc_value}
use Rattle.dice_model.specs.Log.{commits_of, last_value_of}
use Rattle.dice_model.proofs.commits.last_value.Given as goal

abbrev pub invariant-loop-commit : goal.invariant-loop-commit
invariant-loop-commit g l = last_value_of (g.K.PartialEq.eq l.key) (arc_value l.found) (commits_of (drop l.commit-index l.commits)) ≡ last_value_of (g.K.PartialEq.eq l.key) (arc_value l.absent) (commits_of l.commits)
