use Rattle.std.proofs.Common.{◌<◌, ◌-◌}
use Rattle.indexmap.specs.IndexSet.{spare}
use Rattle.dice_tasks.specs.Orders.{IsReordered}
use Rattle.dice_tasks.proofs.line.sink.Given as goal

abbrev pub invariant-down : goal.invariant-down
invariant-down g l = (l.at < l.ready) × IsReordered l.ready l.fn.shelf.keys l.shelf.keys (spare l.fn.shelf) (spare l.shelf)

abbrev pub decreases-down : goal.decreases-down
decreases-down g l = l.ready - l.at
