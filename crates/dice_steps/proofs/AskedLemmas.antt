-- The batch that a step asks is the next one of its task.
use Rattle.std.proofs.Common.{◌≡◌, Bool, List, ◌∷◌, ◌++◌, sym, ap, ◌∙◌, subst}
use Rattle.dice_key.specs.Meaning.{Meaning, Answered}
use Rattle.dep_recorder.specs.Checks.{values_of, IsNextBatch}
use Rattle.dice_jobs.specs.Jobs.{Assigned, Work, Computes, Checks, Outcome, Wanting, comes, outcome_of, Explains, IsExplained}
use Rattle.journal.specs.declared.event.Told.{Told}
use Rattle.core_laws.specs.Tasks.{IsWaiting}
use Rattle.core_laws.specs.Stands.{AsksNext, WorkStands}
use Rattle.dice_jobs.proofs.Followed.{same_front}
use Rattle.dice_jobs.proofs.TruthLemmas.{asked}
use Rattle.dice_jobs.specs.Truths.{Follows}

module _ {K V : Type 0} (eq : K → K → Bool) (m : Meaning K V) (veq : V → V → Bool) (R : List (Told K V)) (a : Assigned K V) (o : Outcome K V) (ks : List K) (wants : o ≡ Wanting ks) where
  pub next_asked : o ≡ outcome_of m veq a → IsExplained a.work a.answered o → WorkStands eq m R a.name.version a.name.key a.work a.answered → AsksNext eq m a.name.version a.name.key a.work a.answered (IsWaiting ks)
  next_asked = by_work a.work
    where
      by_work : (x : Work K V) → o ≡ comes m veq x a.name a.answered → IsExplained x a.answered o → WorkStands eq m R a.name.version a.name.key x a.answered → AsksNext eq m a.name.version a.name.key x a.answered (IsWaiting ks)
      by_work Computes is says stands = asked (m.next a.name.key a.answered a.name.version) ks (sym is ∙ wants)
      by_work (Checks x T b) is says stands =
          let e : Explains T (values_of a.answered) (Wanting ks) = subst (Explains T (values_of a.answered)) wants says in
          let n : IsNextBatch T (values_of a.answered) ks = e.1 in
          let s : a.answered ≡ n.before = same_front n.before (n.batch ∷ n.after) a.answered (subst (λ (S : List (Answered K V)). Follows S a.answered) n.trace_is stands.1) n.fed_is in
          record { batch = n.batch; later = n.after; trace_is = n.trace_is ∙ ap (λ (S : List (Answered K V)). S ++ n.batch ∷ n.after) (sym s); keys_are = sym n.keys_are }
