use Rattle.std.proofs.Common.{◌≡◌, ◌∙◌, ap, map}
use Rattle.std.specs.Arc.{arc_value}
use Rattle.dice_key.specs.declared.universe.Kind.TheVariants.{Injected}
use Rattle.dice_steps.specs.Plans.{key_in}
use Rattle.dice_steps.proofs.SurveyLemmas.{among_or_new}
use Rattle.dice_steps.proofs.plan.is_passed.Goals as goal

pub returns-in_default : goal.returns-in_default
returns-in_default g c =
    let key = arc_value c.args.key.now in
    among_or_new g.U.Key.PartialEq.eq c.laws_of.ensures.keys (g.U.Universe.meaning.kind key ≡ Injected) (map key_in c.args.parts.now) key (λ i. c.in_default.not-Injected (c.kind.ensures ∙ (ap g.U.Universe.meaning.kind c.deref.ensures ∙ i))) c.is_among.result c.is_among.ensures
