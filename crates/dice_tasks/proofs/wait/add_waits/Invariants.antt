use Rattle.std.proofs.Common.{◌≡◌, ◌||◌, length}
use Rattle.task_share.specs.Asked.{By}
use Rattle.task_share.specs.Seen.{asks, KeepsTasks}
use Rattle.dice_tasks.specs.Waitings.{HasRoomFor, waits_so}
use Rattle.dice_tasks.proofs.wait.add_waits.Given as goal

-- there is room for the waits that are to come, and with them the asks are those that are to be
abbrev pub invariant-each : goal.invariant-each
invariant-each g l = record {
  room : HasRoomFor g.U.Key.PartialEq.eq l.rest.items l.tasks;
  tasks : KeepsTasks g.U.Key.PartialEq.eq l.fn.tasks l.tasks;
  asked : (q : g.row.U-Key.Denot) (a : By g.row.U-Key.Denot) → (asks g.U.Key.PartialEq.eq l.tasks q a || waits_so g.U.Key.PartialEq.eq l.rest.items q a) ≡ (asks g.U.Key.PartialEq.eq l.fn.tasks q a || waits_so g.U.Key.PartialEq.eq l.fn.waits.items q a);
}

abbrev pub decreases-each : goal.decreases-each
decreases-each g l = length l.rest.items
