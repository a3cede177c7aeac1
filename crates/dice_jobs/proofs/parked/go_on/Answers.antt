use Rattle.std.proofs.Common.{◌≡◌, ◌∙◌, sym, ap, subst}
use Rattle.dice_jobs.specs.Courses.{IsParked}
use Rattle.dice_jobs.proofs.Readied.{answered_ready, agreed_ready}
use Rattle.dice_jobs.proofs.parked.go_on.Goals.{in-Check, in_default, in_default-via-in-Check+else-agreed, in_default-via-in_default}
use Rattle.dice_jobs.proofs.parked.go_on.Goals as goal

pub returns-clause-ready : goal.returns-clause-ready
returns-clause-ready g c =
    let m = g.U.Universe.meaning in
    let eq = g.U.Value.PartialEq.eq in
    let running = g.U.Universe.running in
    let was = c.args.work.now in
    elim c.match-work.branch [
      | in-Check w ↦ agreed_ready m eq running was.assignment c.args.next w.in-Check.check w.agree.new.self _ was.stand _ c.args.answers
          (subst (λ k. IsParked m eq running was.assignment k was.stand) w.in-Check.is c.requires.parked) c.requires.next (c.requires.agreed w.if-agreed.true) w.agree.ensures (ap (λ z. z.course) w.work-is) w.t-8-is
      | in_default w ↦
          let same : c.match-work.work.course ≡ was.course = elim w.in_default.branch as (λ _. c.match-work.work.course ≡ was.course) [
            | in_default-via-in-Check+else-agreed v ↦ ap (λ z. z.course) (w.work-is ∙ v.work-is) ∙ sym v.in-Check.is
            | in_default-via-in_default v ↦ ap (λ z. z.course) (w.work-is ∙ v.work-is)
          ] in
          answered_ready m eq running was.assignment c.args.next _ was.stand _ c.args.answers (subst (λ k. IsParked m eq running was.assignment k was.stand) (sym same) c.requires.parked) c.requires.next c.requires.answers w.t-8-is
    ]
