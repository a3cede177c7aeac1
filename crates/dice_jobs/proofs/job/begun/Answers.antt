use Rattle.std.proofs.Common.{◌≡◌, ◌≤◌, ◌∙◌, ◌∷◌, ◌+◌, drop, length, sym, ap, subst}
use Rattle.dice_key.specs.Lawful.{step_of}
use Rattle.dice_key.specs.Meaning.{Takes, next_of, resumed}
use Rattle.dep_recorder.specs.Recordings.{answered_in}
use Rattle.dice_jobs.specs.Jobs.{stand_of}
use Rattle.dice_jobs.proofs.Replayed.{gone_all, gone_at_once, gone_takes, gone_on}
use Rattle.dice_jobs.proofs.job.begun.Goals.{in-Some+else-loop-at-test, in_default}
use Rattle.dice_jobs.proofs.job.begun.Goals as goal

pub resume-requires : goal.resume-requires
resume-requires g c =
    let a = c.args.assignment.now in
    let m = g.U.Universe.meaning in
    let same : c.deref-in-loop-at.result.now ≡ a.answered = c.deref-in-loop-at.ensures ∙ c.in-Some.ensures in
    let next : drop c.loop-at.at a.answered ≡ answered_in c.batch.result.now ∷ drop (c.loop-at.at + 1) a.answered = subst (λ T. drop c.loop-at.at T ≡ answered_in c.batch.result.now ∷ drop (c.loop-at.at + 1) T) same c.batch.ensures.batch in
    subst (λ xs. Takes (next_of m (g.U.Universe.running c.loop-at.run)) (length xs)) (sym c.in_ok-answers.ensures)
    (gone_takes m a.name.key a.name.version a.answered c.requires.asks c.loop-at.at _ _ c.loop-at.invariant (answered_in c.batch.result.now) next)

pub loop-at-preserved : goal.loop-at-preserved
loop-at-preserved g c =
    let a = c.args.assignment.now in
    let m = g.U.Universe.meaning in
    let same : c.deref-in-loop-at.result.now ≡ a.answered = c.deref-in-loop-at.ensures ∙ c.in-Some.ensures in
    let next : drop c.loop-at.at a.answered ≡ answered_in c.batch.result.now ∷ drop (c.loop-at.at + 1) a.answered = subst (λ T. drop c.loop-at.at T ≡ answered_in c.batch.result.now ∷ drop (c.loop-at.at + 1) T) same c.batch.ensures.batch in
    gone_on m a.name.key a.name.version a.answered c.requires.asks c.loop-at.at _ _ c.loop-at.invariant (answered_in c.batch.result.now) next _ _
    (c.in_ok-step.ensures.run ∙ ap (resumed m (g.U.Universe.running c.loop-at.run)) c.in_ok-answers.ensures) c.in_ok-step.ensures.step

pub returns-clause-run : goal.returns-clause-run
returns-clause-run g c =
    let a = c.args.assignment.now in
    let m = g.U.Universe.meaning in
    let run = g.U.Universe.running in
    let r : (run c.match-batches.run ≡ stand_of a) × (step_of c.match-batches.step ≡ next_of m (stand_of a)) = elim c.match-batches.branch as (λ _. (run c.match-batches.run ≡ stand_of a) × (step_of c.match-batches.step ≡ next_of m (stand_of a))) [
      | in-Some+else-loop-at-test w ↦
          let n : w.len-at-end.result ≡ length a.answered = w.len-at-end.ensures ∙ ap length (w.deref.ensures ∙ w.in-Some.ensures) in
          let l : w.len-at-end.result ≤ w.loop-at.at = w.loop-at-test.false in
          let h = gone_all m a.name.key a.name.version a.answered w.loop-at.at _ _ (subst (λ i. i ≤ w.loop-at.at) n l) w.loop-at.invariant in
          (ap run w.run-is ∙ h.0, ap step_of w.step-is ∙ h.1)
      | in_default w ↦
          let h = gone_at_once m a.name.key a.name.version a.answered _ _ _ _ c.in_ok-run.ensures.run c.in_ok-run.ensures.step (c.key.ensures ∙ ap (λ n. n.key) c.name-name.ensures) (c.version.ensures ∙ ap (λ n. n.version) c.name-name.ensures) w.in_default.ensures in
          (ap run w.run-is ∙ h.0, ap step_of w.step-is ∙ h.1)
    ] in
    r.0

pub returns-clause-step : goal.returns-clause-step
returns-clause-step g c =
    let a = c.args.assignment.now in
    let m = g.U.Universe.meaning in
    let run = g.U.Universe.running in
    let r : (run c.match-batches.run ≡ stand_of a) × (step_of c.match-batches.step ≡ next_of m (stand_of a)) = elim c.match-batches.branch as (λ _. (run c.match-batches.run ≡ stand_of a) × (step_of c.match-batches.step ≡ next_of m (stand_of a))) [
      | in-Some+else-loop-at-test w ↦
          let n : w.len-at-end.result ≡ length a.answered = w.len-at-end.ensures ∙ ap length (w.deref.ensures ∙ w.in-Some.ensures) in
          let l : w.len-at-end.result ≤ w.loop-at.at = w.loop-at-test.false in
          let h = gone_all m a.name.key a.name.version a.answered w.loop-at.at _ _ (subst (λ i. i ≤ w.loop-at.at) n l) w.loop-at.invariant in
          (ap run w.run-is ∙ h.0, ap step_of w.step-is ∙ h.1)
      | in_default w ↦
          let h = gone_at_once m a.name.key a.name.version a.answered _ _ _ _ c.in_ok-run.ensures.run c.in_ok-run.ensures.step (c.key.ensures ∙ ap (λ n. n.key) c.name-name.ensures) (c.version.ensures ∙ ap (λ n. n.version) c.name-name.ensures) w.in_default.ensures in
          (ap run w.run-is ∙ h.0, ap step_of w.step-is ∙ h.1)
    ] in
    r.1
