use Rattle.std.proofs.Common.{◌∙◌, ◌||◌, ◌+◌, sym, ap, map, drop}
use Rattle.std.specs.Arc.{arc_value}
use Rattle.std.specs.List.{list_any}
use Rattle.std.proofs.lemmas.List.{drop_all}
use Rattle.dice_steps.specs.Plans.{key_in}
use Rattle.dice_steps.proofs.SurveyLemmas.{left_first}
use Rattle.dice_steps.proofs.plan.is_among.Goals as goal

pub returns-then-is_for : goal.returns-then-is_for
returns-then-is_for g c =
    let test = g.U.Key.PartialEq.eq (arc_value c.args.key.now) in
    let parts = c.args.parts.now in
    let rest = list_any test (map key_in (drop (c.loop-part.part-index + 1) parts)) in
    let first = left_first test key_in parts c.loop-part.part-index c.part-item.result c.loop-part-test.true c.part-item.is in
    sym (c.loop-part.invariant ∙ (first ∙ (λ j. (sym c.is_for.ensures ∙ c.if-is_for.true) j || rest)))

pub loop-part-preserved : goal.loop-part-preserved
loop-part-preserved g c =
    let test = g.U.Key.PartialEq.eq (arc_value c.args.key.now) in
    let parts = c.args.parts.now in
    let rest = list_any test (map key_in (drop (c.loop-part.part-index + 1) parts)) in
    let first = left_first test key_in parts c.loop-part.part-index c.part-item.result c.loop-part-test.true c.part-item.is in
    c.loop-part.invariant ∙ (first ∙ (λ j. (sym c.is_for.ensures ∙ c.if-is_for.false) j || rest))

pub returns : goal.returns
returns g c =
    let test = g.U.Key.PartialEq.eq (arc_value c.args.key.now) in
    let none = drop_all c.loop-part.part-index c.args.parts.now c.loop-part-test.false in
    sym (c.loop-part.invariant ∙ ap (λ zs. list_any test (map key_in zs)) none)
