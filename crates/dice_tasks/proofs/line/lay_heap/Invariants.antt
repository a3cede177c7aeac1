use Rattle.indexmap.specs.IndexSet.{spare}
use Rattle.dice_tasks.specs.Orders.{IsReordered}
use Rattle.dice_tasks.proofs.line.lay_heap.Given as goal

abbrev pub invariant-each : goal.invariant-each
invariant-each g l = IsReordered l.ready l.fn.shelf.keys l.shelf.keys (spare l.fn.shelf) (spare l.shelf)
