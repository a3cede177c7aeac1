use Rattle.std.proofs.Common.{◌≡◌, map, take}
use Rattle.std.specs.Arc.{arc_value}
use Rattle.std.specs.List.{AllByRecursion}
use Rattle.dice_steps.proofs.woken.asks_alone.Given as goal

-- the waits so far are the key
abbrev pub invariant-loop-asked : goal.invariant-loop-asked
invariant-loop-asked g l = AllByRecursion (λ q. q ≡ arc_value l.key) (map arc_value (take l.asked-index l.waits))
