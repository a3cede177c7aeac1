use Rattle.std.proofs.Common.{map, take}
use Rattle.std.specs.Arc.{arc_value}
use Rattle.dice_steps.specs.Orders.{AreInOrder}
use Rattle.dice_steps.specs.Plans.{key_in, AreParts}
use Rattle.dice_steps.proofs.NotedLemmas.{AreSeen}
use Rattle.dice_steps.proofs.plan.look_over_all.Given as goal

-- these are the parts of the keys so far, in their order, and their keys are those that were seen
abbrev pub invariant-loop-key : goal.invariant-loop-key
invariant-loop-key g l = record {
  parts : AreParts g.U.Key.PartialEq.eq g.U.Universe.meaning l.version l.born l.tasks l.shared.graph (arc_value l.own) (map arc_value (take l.key-index l.keys)) l.parts.items;
  order : AreInOrder (map arc_value (take l.key-index l.keys)) (map key_in l.parts.items);
  seen : AreSeen g.U.Key.PartialEq.eq l.seen (map key_in l.parts.items);
}
