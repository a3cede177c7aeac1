use Rattle.std.proofs.Common.{◌≡◌, [], ◌∷◌, refl, sym, ap, ◌∙◌, subst}
use Rattle.std.specs.Arc.{arc_value}
use Rattle.journal.specs.declared.event.Told.TheVariants.{Keep, End}
use Rattle.dice_jobs.specs.Jobs.{Checks}
use Rattle.dice_core.specs.Givings.{IsToldBy}
use Rattle.dice_core.proofs.GivesLemmas.{ended_gives}
use Rattle.dice_core.proofs.ResultLemmas.{newest_below, both_ok, on_ok}
use Rattle.dice_core.proofs.giving.end.Goals as goal

pub done-requires-clause-last : goal.done-requires-clause-last
done-requires-clause-last g c κs within =
    newest_below g.U.Key.PartialEq.eq c.laws_of.ensures.keys g.U.Universe.meaning c.laws_of.ensures.lawful c.args.shared.now.cells c.args.shared.now.desk.events c.requires.hand.1.cells c.in_ok-_index._index _ c.in_ok-_index.ensures.0 c.in_ok-_index.ensures.1

pub same-requires-clause-last : goal.same-requires-clause-last
same-requires-clause-last g c κs within =
    newest_below g.U.Key.PartialEq.eq c.laws_of.ensures.keys g.U.Universe.meaning c.laws_of.ensures.lawful c.args.shared.now.cells c.args.shared.now.desk.events c.requires.hand.1.cells c.in_ok-_index._index _ c.in_ok-_index.ensures.0 c.in_ok-_index.ensures.1

pub returns-in-Done-default-clause-taken : goal.returns-in-Done-default-clause-taken
returns-in-Done-default-clause-taken g c =
    let s = c.args.step.now in
    let n = s.job.name in
    let d = c.args.shared.now.desk in
    let e = c.done.new.shared.desk in
    let ps = c.args.tasks.now in
    let qs = c.done.new.tasks in
    let cells = c.args.shared.now.cells in
    let x = arc_value c.in-Done-default.value.now in
    on_ok c.done.result _ _ (both_ok c.done.result _ _ c.done.ensures.events c.done.ensures.given)
    (λ h. ended_gives g.U.Key.PartialEq.eq c.laws_of.ensures.keys s n.version ps qs d e c.requires.out g.U.Universe.meaning cells x (End n.version n.key)
    h.1
    h.0
    refl
    (subst (λ o. IsToldBy n.version n.key s.job.work o (End n.version n.key ∷ [])) c.in-Done-default.ensures.report refl))

pub returns-in-Same-Some-clause-taken : goal.returns-in-Same-Some-clause-taken
returns-in-Same-Some-clause-taken g c =
    let s = c.args.step.now in
    let n = s.job.name in
    let d = c.args.shared.now.desk in
    let e = c.same.new.shared.desk in
    let ps = c.args.tasks.now in
    let qs = c.same.new.tasks in
    let cells = c.args.shared.now.cells in
    let earlier = c.in-Same-Some.earlier.now in
    let x = arc_value earlier.value in
    let checks : s.job.work ≡ Checks x (arc_value earlier.trace) earlier.base = sym (c.in-Same-Some.ensures' ∙ ap (λ j. j.work) c.assignment.ensures) in
    on_ok c.same.result _ _ (both_ok c.same.result _ _ c.same.ensures.events c.same.ensures.given)
    (λ h. ended_gives g.U.Key.PartialEq.eq c.laws_of.ensures.keys s n.version ps qs d e c.requires.out g.U.Universe.meaning cells x (Keep n.version n.key earlier.base)
    h.1
    h.0
    refl
    (subst (λ o. IsToldBy n.version n.key s.job.work o (Keep n.version n.key earlier.base ∷ [])) c.in-Same-Some.ensures.report (x, arc_value earlier.trace, earlier.base, checks, refl)))
