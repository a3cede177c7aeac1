use Rattle.std.proofs.Common.{map, take}
use Rattle.std.specs.Arc.{arc_value}
use Rattle.std.specs.List.{AllZip}
use Rattle.dice_steps.specs.Wokens.{IsAnswer}
use Rattle.dice_steps.proofs.woken.next_of.Given as goal

-- the answers so far
abbrev pub invariant-loop-asked : goal.invariant-loop-asked
invariant-loop-asked g l = AllZip (IsAnswer g.U.Key.PartialEq.eq g.U.Universe.meaning l.shared.cells l.version (arc_value l.ended.key.now) (arc_value l.ended.value.now) l.tasks) (map arc_value (take l.asked-index l.keys)) l.answers
