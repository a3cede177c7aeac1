-- What the tasks that have ended answer.
use Rattle.std.proofs.Common.{◌≡◌, ◌⊎◌, inl, inr, ℕ, List, Option, Some, None, refl, subst, Bool}
use Rattle.std.specs.List.{AllZip}
use Rattle.std.proofs.lemmas.Option.{same_Some, none-some}
use Rattle.dice_key.specs.Meaning.{Meaning}
use Rattle.dice_key.specs.declared.universe.Kind.TheVariants.{Injected}
use Rattle.dice_model.specs.Log.{input}
use Rattle.dice_model.specs.Eval.{HasValue}
use Rattle.dice_model.proofs.EvalLaws.{cyclic-no-value}
use Rattle.dice_model.proofs.Inputs.{injected_value}
use Rattle.dice_model.proofs.Traces.{zip_map}
use Rattle.task_share.specs.Asked.{Asked}
use Rattle.journal.specs.declared.event.Told.{Told}
use Rattle.journal.specs.Events.{commits_of}
use Rattle.core_laws.specs.Tasks.{WithValue, WithCycle, WithNothing, Standing, Works, Ended, Task, value_in, value_of}
use Rattle.journal.specs.Law.{CycleStands}
use Rattle.core_laws.specs.Stands.{IsStanding, TaskStands, VersionStands}

module _ {K V : Type 0} (eq : K → K → Bool) (m : Meaning K V) (R : List (Told K V)) (v : ℕ) where
  value_stands : (k : K) (t : Task K V) (x : V) → TaskStands eq m R v k t → value_in t.standing ≡ Some x → HasValue eq m (commits_of R) v k x
  value_stands k t x h e = by_standing t.standing h.standing e
    where
      by_standing : (d : Standing K V) → IsStanding eq m R v k d → value_in d ≡ Some x → HasValue eq m (commits_of R) v k x
      by_standing (Works w p A) i f = absurd (none-some x f)
      by_standing (Ended (WithValue y)) i f = subst (HasValue eq m (commits_of R) v k) (same_Some y x f) i.0
      by_standing (Ended (WithCycle p)) i f = absurd (none-some x f)
      by_standing (Ended WithNothing) i f = absurd (none-some x f)

  module _ (W : List K) (s : Asked K) (ts : K → Option (Task K V)) (h : VersionStands eq m R v W s ts) where
    -- the value that a task ended with is that of its key
    pub ended_value : (k : K) (x : V) → value_of (ts k) ≡ Some x → HasValue eq m (commits_of R) v k x
    ended_value k x e = by_task (ts k) refl e
      where
        by_task : (o : Option (Task K V)) → ts k ≡ o → value_of o ≡ Some x → HasValue eq m (commits_of R) v k x
        by_task None there f = absurd (none-some x f)
        by_task (Some t) there f = value_stands k t x (h.each k t there) f

    -- the cycle that a task ended with is one that its key reaches
    pub ended_cycle : (k : K) (t : Task K V) (p : List K) → ts k ≡ Some t → t.standing ≡ Ended (WithCycle p) → CycleStands eq m (commits_of R) v k p
    ended_cycle k t p there e = (subst (IsStanding eq m R v k) e (h.each k t there).standing).0

    -- and then the key has no value
    pub no_value_by_cycle : (k : K) (t : Task K V) (p : List K) (x : V) → ts k ≡ Some t → t.standing ≡ Ended (WithCycle p) → HasValue eq m (commits_of R) v k x → ⊥
    no_value_by_cycle k t p x there e i = let c = ended_cycle k t p there e in cyclic-no-value eq m (commits_of R) v k x (record { first = c.first; rest = c.rest; cycle = c.cycle; reaches = c.reaches }) i

    -- inputs, and values that tasks ended with, answer a batch with the values of its keys
    pub answers_are_values : (ks : List K) (xs : List V) → AllZip (λ k x. ((m.kind k ≡ Injected) × (input eq m (commits_of R) v k ≡ x)) ⊎ (value_of (ts k) ≡ Some x)) ks xs → AllZip (HasValue eq m (commits_of R) v) ks xs
    answers_are_values ks xs z = zip_map (λ k x. ((m.kind k ≡ Injected) × (input eq m (commits_of R) v k ≡ x)) ⊎ (value_of (ts k) ≡ Some x)) (HasValue eq m (commits_of R) v) ks xs
        (λ k x i a. elim a as (λ _. HasValue eq m (commits_of R) v k x) [ inl b ↦ subst (HasValue eq m (commits_of R) v k) b.1 (injected_value eq m (commits_of R) v k b.0) | inr e ↦ ended_value k x e ]) z
