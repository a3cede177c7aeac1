use Rattle.std.proofs.Common.{◌-◌, sym}
use Rattle.std.specs.Arc.{arc_value}
use Rattle.dice_steps.specs.Plans.{key_in}
use Rattle.dice_steps.proofs.SurveyLemmas.{get_has}
use Rattle.dice_steps.proofs.plan.part_of.Goals as goal

pub returns-in-Some-clause-some : goal.returns-in-Some-clause-some
returns-in-Some-clause-some g c = (
  get_has c.args.parts.now (c.args.left - 1) c.in-Some.part.now c.in-Some.ensures.lookup.3.0 c.in-Some.ensures.lookup.1,
  sym (c.laws_of.ensures.keys.same (arc_value c.args.key.now) (key_in c.in-Some.part.now) (sym c.if-is_for.ensures)),
)
