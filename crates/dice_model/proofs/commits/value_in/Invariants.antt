use Rattle.std.proofs.Common.{◌≡◌, drop}
use Rattle.dice_model.specs.Log.{pairs_of}
use Rattle.std.specs.Map.{lookup}
use Rattle.dice_model.proofs.commits.value_in.Given as goal

-- what is left has what the whole has
abbrev pub invariant-loop-at : goal.invariant-loop-at
invariant-loop-at g l = lookup (g.K.PartialEq.eq l.key) (pairs_of (drop l.at-index l.commit)) ≡ lookup (g.K.PartialEq.eq l.key) (pairs_of l.commit)
