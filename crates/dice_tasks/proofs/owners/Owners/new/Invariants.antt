use Rattle.std.proofs.Common.{◌≡◌, length, map}
use Rattle.std.specs.Arc.{arc_value}
use Rattle.dice_tasks.specs.Owned.{AreAllOf}
use Rattle.dice_tasks.proofs.owners.Owners.new.Given as goal

abbrev pub invariant-loop : goal.invariant-loop
invariant-loop g l = (length l.more.items ≡ l.counter) × AreAllOf (arc_value l.path) (map arc_value l.more.items)
