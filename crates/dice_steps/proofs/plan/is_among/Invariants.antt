use Rattle.std.proofs.Common.{◌≡◌, map, drop}
use Rattle.std.specs.Arc.{arc_value}
use Rattle.std.specs.List.{list_any}
use Rattle.dice_steps.specs.Plans.{key_in}
use Rattle.dice_steps.proofs.plan.is_among.Given as goal

-- the key is among those of all parts just if it is among those that are left
abbrev pub invariant-loop-part : goal.invariant-loop-part
invariant-loop-part g l = list_any (g.U.Key.PartialEq.eq (arc_value l.key)) (map key_in l.parts) ≡ list_any (g.U.Key.PartialEq.eq (arc_value l.key)) (map key_in (drop l.part-index l.parts))
