use Rattle.std.proofs.Common.{◌≡◌, ◌∷◌, map, take}
use Rattle.std.specs.Arc.{arc_value}
use Rattle.task_share.specs.Numbers.{keys_of, names_at}
use Rattle.cycle_guard.proofs.guard.path_of.Given as goal

abbrev pub invariant-loop-number : goal.invariant-loop-number
invariant-loop-number g l = map arc_value l.keys.items ≡ arc_value l.first ∷ names_at (keys_of l.table) (take l.number-index l.rest)
