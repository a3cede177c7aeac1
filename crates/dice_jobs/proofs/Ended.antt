-- What a step of a run comes to is what comes of the job.
use Rattle.std.proofs.Common.{◌≡◌, ◌∙◌, Bool, refl, sym, ap, subst}
use Rattle.dice_key.specs.Meaning.{Meaning, Running, next_of}
use Rattle.dice_jobs.specs.Jobs.{Computes, Assigned, Outcome, of_move, comes, stand_of, IsExplained}
use Rattle.dice_jobs.specs.Courses.{RunEnds, IsEnding, ended}
use Rattle.dice_jobs.specs.declared.work.Course.TheVariants.{Run}
use Rattle.dice_jobs.specs.declared.work.Stand.{Stand}
use Rattle.dice_jobs.specs.declared.work.Stand.TheVariants as stand

module _ {U K V R : Type 0} (m : Meaning K V) (eq : V → V → Bool) (running : R → Running K V) (a : Assigned K V) where
  ends_so : (s : Stand U K V R) (o : Outcome K V) → a.work ≡ Computes → o ≡ of_move (next_of m (stand_of a)) → ended s ≡ o → (ended s ≡ comes m eq a.work a.name a.answered) × IsExplained a.work a.answered (ended s)
  ends_so s o w e f = (
    f ∙ (e ∙ ap (λ W. comes m eq W a.name a.answered) (sym w)),
    subst (λ W. IsExplained W a.answered (ended s)) (sym w) tt,
  )

  pub run_ended : (r : R) (s : Stand U K V R) → a.work ≡ Computes → running r ≡ stand_of a → RunEnds m (stand_of a) s → IsEnding m eq running a (Run r) s
  run_ended r stand.Ready w e h = absurd h
  run_ended r (stand.Answered xs) w e h = absurd h
  run_ended r (stand.Asks ks) w e h =
      let z = ends_so (stand.Asks ks) _ w (sym (ap of_move h)) refl in
      record { outcome = z.0; explained = z.1; goes_on = (w, e, h) }
  run_ended r (stand.Done x) w e h =
      let z = ends_so (stand.Done x) _ w (sym (ap of_move h)) refl in
      record { outcome = z.0; explained = z.1; goes_on = tt }
  run_ended r stand.Same w e h = absurd h
  run_ended r (stand.Differs d) w e h = absurd h
