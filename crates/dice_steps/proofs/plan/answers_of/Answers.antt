use Rattle.std.proofs.Common.{◌∙◌, ◌++◌, ◌∷◌, [], sym, ap, subst, map, take}
use Rattle.std.specs.Arc.{arc_value}
use Rattle.std.specs.List.{AllZip}
use Rattle.dice_steps.specs.Plans.{IsAtHand}
use Rattle.dice_steps.proofs.PartLemmas.{keys_next}
use Rattle.dice_steps.proofs.SurveyLemmas.{key_of_batch}
use Rattle.dice_steps.proofs.plan.answers_of.Goals as goal
use Rattle.lists.proofs.Each.{zip_end}

pub returns-in_default-clause-none : goal.returns-in_default-clause-none
returns-in_default-clause-none g c =
    (arc_value c.key-item.result, key_of_batch g.U.Key.PartialEq.eq c.laws_of.ensures.keys c.keys-keys.result.now _ c.loop-key.key-index c.key-item.result c.keys-keys.ensures c.loop-key-test.true c.key-item.is, c.in_default.ensures.none)

pub loop-key-preserved : goal.loop-key-preserved
loop-key-preserved g c =
    let P = IsAtHand g.U.Key.PartialEq.eq g.U.Universe.meaning c.args.version c.args.tasks.now c.args.shared.now.graph c.args.shared.now.cells in
    let x = c.key-item.result in
    subst (λ z. AllZip P z c.push.new.self) (sym (keys_next c.keys-keys.result.now c.loop-key.key-index x c.loop-key-test.true c.key-item.is))
    (subst (AllZip P (map arc_value (take c.loop-key.key-index c.keys-keys.result.now) ++ arc_value x ∷ [])) (sym (c.in_ok-push.ensures.ok ∙ ap (λ z. c.loop-key.answers ++ z ∷ []) c.in_ok-try_clone.ensures))
    (zip_end P (map arc_value (take c.loop-key.key-index c.keys-keys.result.now)) c.loop-key.answers (arc_value x) (arc_value c.in-Some.value.now) c.loop-key.invariant c.in-Some.ensures.some))
