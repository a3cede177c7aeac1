use Rattle.std.proofs.Common.{◌<◌}
use Rattle.indexmap.specs.IndexSet.{spare}
use Rattle.dice_tasks.specs.Orders.{IsReordered}
use Rattle.dice_tasks.proofs.line.rise.Given as goal

abbrev pub invariant-up : goal.invariant-up
invariant-up g l = (l.at < l.ready) × IsReordered l.ready l.fn.shelf.keys l.shelf.keys (spare l.fn.shelf) (spare l.shelf)

abbrev pub decreases-up : goal.decreases-up
decreases-up g l = l.at
