use Rattle.indexmap.specs.IndexSet.{spare}
use Rattle.dice_tasks.specs.Orders.{IsReordered}
use Rattle.dice_tasks.proofs.line.turn_round.Given as goal

abbrev pub invariant-pairs : goal.invariant-pairs
invariant-pairs g l = IsReordered l.ready l.fn.shelf.keys l.shelf.keys (spare l.fn.shelf) (spare l.shelf)
