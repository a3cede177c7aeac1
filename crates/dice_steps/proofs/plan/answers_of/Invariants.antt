use Rattle.std.proofs.Common.{map, take}
use Rattle.std.specs.Arc.{arc_value}
use Rattle.std.specs.List.{AllZip}
use Rattle.dice_steps.specs.Plans.{IsAtHand}
use Rattle.dice_steps.proofs.plan.answers_of.Given as goal

-- these are the values at hand of the keys so far
abbrev pub invariant-loop-key : goal.invariant-loop-key
invariant-loop-key g l = AllZip (IsAtHand g.U.Key.PartialEq.eq g.U.Universe.meaning l.version l.tasks l.shared.graph l.shared.cells) (map arc_value (take l.key-index l.keys)) l.answers
