-- A check that goes on with its trace's own answers.
use Rattle.std.proofs.Common.{◌≡◌, ◌+◌, List, [], ◌∷◌, ◌++◌, length, take, sym, ap, ◌∙◌, subst, arith}
use Rattle.std.proofs.Math.Seq.{take-append_seam}
use Rattle.std.proofs.lemmas.List.{length-append, length-map}
use Rattle.dice_key.specs.Meaning.{Answered}
use Rattle.dep_recorder.specs.Checks.{Checked, values_of}
use Rattle.dice_jobs.specs.Jobs.{Work, Computes, Checks, Assigned, AreOfTrace, Agrees, answered_more}
use Rattle.dice_jobs.specs.Courses.{HasTrace}

module _ {K V : Type 0} where
  -- one batch more of a trace whose first batches these are
  own_values : (T A later : List (Answered K V)) (b : Answered K V) → T ≡ (A ++ b ∷ []) ++ later → values_of (take (length (values_of A) + 1) T) ≡ values_of (A ++ b ∷ [])
  own_values T A later b e =
      let m = length-map A (λ (a : Answered K V). a.values) in
      let n = length-append A (b ∷ []) in
      let l : length (values_of A) + 1 ≡ length (A ++ b ∷ []) = omega arith in
      ap values_of (ap (λ i. take i T) l ∙ (ap (take (length (A ++ b ∷ []))) e ∙ take-append_seam (A ++ b ∷ []) later))

  agreed_check : (W : Work K V) (A : List (Answered K V)) (b : Answered K V) (c d : Checked K V) → HasTrace W c.trace → c.fed ≡ values_of A → AreOfTrace W (A ++ b ∷ []) → d ≡ record { trace = c.trace; fed = values_of (take (length c.fed + 1) c.trace) }
      → HasTrace W d.trace × (d.fed ≡ values_of (A ++ b ∷ []))
  agreed_check Computes A b c d t f o e = absurd t
  agreed_check (Checks x T v) A b c d t f o e = (
    t ∙ sym (ap (λ (z : Checked K V). z.trace) e),
    ap (λ (z : Checked K V). z.fed) e ∙ ((λ i. values_of (take (length (f i) + 1) (sym t i))) ∙ own_values T A o.0 b o.1),
  )

  -- so the job that follows is ready with it
  pub ready_agreed : (a n : Assigned K V) (ks : List K) (xs : List V) (c d : Checked K V) → n ≡ answered_more a ks xs → Agrees n → HasTrace a.work c.trace → c.fed ≡ values_of a.answered → d ≡ record { trace = c.trace; fed = values_of (take (length c.fed + 1) c.trace) }
      → HasTrace n.work d.trace × (d.fed ≡ values_of n.answered)
  ready_agreed a n ks xs c d e agrees t f i = subst (λ (z : Assigned K V). HasTrace z.work d.trace × (d.fed ≡ values_of z.answered)) (sym e) (agreed_check a.work a.answered (record { keys = ks; values = xs }) c d t f (subst Agrees e agrees) i)
