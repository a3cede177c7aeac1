use Rattle.std.proofs.Common.{◌≡◌, take}
use Rattle.std.specs.Arc.{arc_value}
use Rattle.task_share.specs.Seen.{KeepsTasks, KeepsAsks, KeepsRoom}
use Rattle.dice_steps.specs.Plans.{waits_of, ArePlaced}
use Rattle.dice_steps.proofs.plan.reserve_parts.Given as goal

-- there is room for the parts so far, and these are their waits
abbrev pub invariant-loop-part : goal.invariant-loop-part
invariant-loop-part g l = record {
  tasks : KeepsTasks g.U.Key.PartialEq.eq l.fn.tasks l.tasks;
  asks : KeepsAsks g.U.Key.PartialEq.eq l.fn.tasks l.tasks;
  room : KeepsRoom g.U.Key.PartialEq.eq l.fn.tasks l.tasks;
  placed : ArePlaced g.U.Key.PartialEq.eq (take l.part-index l.parts) l.tasks;
  waits : l.waits.items ≡ waits_of (arc_value l.own) (take l.part-index l.parts);
}
