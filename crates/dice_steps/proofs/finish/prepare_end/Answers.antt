use Rattle.std.proofs.Common.{◌≡◌, ◌∙◌, sym, ap, subst}
use Rattle.std.specs.Arc.{arc_value}
use Rattle.dice_jobs.specs.Jobs.{Name, Assigned}
use Rattle.dice_steps.specs.Agreements.{AllAgreeIfKept}
use Rattle.dice_steps.specs.Wokens.{HasAnswers}
use Rattle.dice_steps.proofs.finish.prepare_end.Goals as goal

pub woken_by-requires-clause-answers : goal.woken_by-requires-clause-answers
woken_by-requires-clause-answers g c κs within =
    let key : arc_value c.key.result.now ≡ c.args.step.now.job.name.key = c.key.ensures ∙ ap (λ (n : Name g.row.U-Key.Denot). n.key) (c.name-name.ensures ∙ ap (λ (z : Assigned g.row.U-Key.Denot g.row.U-Value.Denot). z.name) c.assignment.ensures) in
    subst (λ q. HasAnswers g.U.Key.PartialEq.eq g.U.Universe.meaning q c.args.tasks.now) (sym key) c.requires.answers

pub woken_by-requires-clause-agree : goal.woken_by-requires-clause-agree
woken_by-requires-clause-agree g c κs within =
    let named : c.name-name.result.now ≡ c.args.step.now.job.name = c.name-name.ensures ∙ ap (λ (z : Assigned g.row.U-Key.Denot g.row.U-Value.Denot). z.name) c.assignment.ensures in
    let key : arc_value c.key.result.now ≡ c.args.step.now.job.name.key = c.key.ensures ∙ ap (λ (n : Name g.row.U-Key.Denot). n.key) named in
    let at : c.version.result ≡ c.args.step.now.job.name.version = c.version.ensures ∙ ap (λ (n : Name g.row.U-Key.Denot). n.version) named in
    subst (λ n. AllAgreeIfKept g.U.Key.PartialEq.eq g.U.Universe.meaning c.args.shared.now.cells n (arc_value c.key.result.now) (arc_value c.args.value.now) c.args.tasks.now c.args.shared.now.graph) (sym at)
    (subst (λ q. AllAgreeIfKept g.U.Key.PartialEq.eq g.U.Universe.meaning c.args.shared.now.cells c.args.step.now.job.name.version q (arc_value c.args.value.now) c.args.tasks.now c.args.shared.now.graph) (sym key) c.requires.agree)
