-- If no transaction is open at a version, and each task at work has an asker, nobody is at work: the table can be thrown away.
use Rattle.std.proofs.Common.{◌≡◌, ◌<◌, ◌+◌, inl, inr, ℕ, zero, suc, Bool, true, false, List, [], ◌∷◌, length, Option, Some, None, refl, sym, ◌∙◌, subst, arith}
use Rattle.std.proofs.lemmas.Bool.{both_ways, false_from_ne_true}
use Rattle.std.proofs.lemmas.Option.{none-some}
use Rattle.dice_key.specs.Lawful.{IsEquality, IsLawful}
use Rattle.dice_key.specs.Meaning.{Meaning}
use Rattle.dice_key.proofs.KeySets.{has_or_not}
use Rattle.task_share.specs.Asked.{By, Promised, Tasked, Asked, Leads, stays, asks_on, HasNoCycle, IsDone}
use Rattle.journal.specs.declared.event.Told.{Told}
use Rattle.journal.specs.Events.{Asking, opened_at, open_count, live_at, decided, is_running}
use Rattle.journal.specs.Law.{IsLawfulBack}
use Rattle.journal.proofs.Lawful.{closes_open}
use Rattle.journal.proofs.Counts.{none_open}
use Rattle.core_laws.specs.Tasks.{Task}
use Rattle.core_laws.specs.Stands.{VersionStands, IsAtRest}
use Rattle.core_laws.specs.Promises.{nobody}
use Rattle.lists.proofs.Distinct.{few}
use Rattle.lists.specs.Lists.{AreDistinct, Has}
use Rattle.core_laws.proofs.Held.{going_where_waiting}
use Rattle.core_laws.proofs.Shapes.{idle_computes}

module _ {K : Type 0} (eq : K → K → Bool) (equality : IsEquality eq) (s : Asked K) (all : List K) (finite : (q : K) → s.live q ≡ true → Has all q) (free : HasNoCycle s)
    (asked : (q : K) → s.live q ≡ true → (j : K) × (s.asks q (Tasked j) ≡ true) × (s.live j ≡ true)) where
  climbs : (n : ℕ) (q : K) (path : List K) → ((e : K) → Has (q ∷ path) e → Leads s q e) → ((e : K) → Has (q ∷ path) e → s.live e ≡ true) → AreDistinct (q ∷ path) → length all < length (q ∷ path) + n → ⊥
  climbs zero q path l v d room = let z = few (q ∷ path) all d (λ e h. finite e (v e h)) in omega arith
  climbs (suc n) q path l v d room =
      let a = asked q (v q (inl refl)) in
      elim (has_or_not eq equality (q ∷ path) a.0) as (λ _. ⊥) [
        | inl found ↦ free a.0 q a.1 (l a.0 found)
        | inr fresh ↦ climbs n a.0 (q ∷ path)
            (λ x h. elim h as (λ _. Leads s a.0 x) [ inl i ↦ subst (Leads s a.0) i stays | inr g ↦ asks_on a.1 (l x g) ])
            (λ x h. elim h as (λ _. s.live x ≡ true) [ inl i ↦ subst (λ y. s.live y ≡ true) i a.2 | inr g ↦ v x g ])
            (fresh, d) (let z : length (a.0 ∷ q ∷ path) ≡ suc (length (q ∷ path)) = refl in omega arith)
      ]

  -- if each task at work is asked for by a task at work, and there are finitely many without a cycle, there is none
  pub none_live : (q : K) → s.live q ≡ true → ⊥
  none_live q v = climbs (length all) q [] (λ e g. elim g as (λ _. Leads s q e) [ inl i ↦ subst (Leads s q) i stays | inr b ↦ absurd b ])
      (λ e g. elim g as (λ _. s.live e ≡ true) [ inl i ↦ subst (λ y. s.live y ≡ true) i v | inr b ↦ absurd b ]) ((λ b. b), tt) (omega arith)

module _ {K V : Type 0} (eq : K → K → Bool) (m : Meaning K V) (R : List (Told K V)) (v : ℕ) where
  -- if no ask is live, nothing runs and nothing is decided, a version is at rest with no task and no ask
  pub nobody_rests : ((i : ℕ) (a : Asking K) → live_at R i ≡ Some a → opened_at R v a.opened ≡ false) → ((k : K) → is_running eq R v k ≡ false) → (0 < open_count R v → (k : K) → decided eq R v k ≡ None) → IsAtRest eq m R v nobody (λ q. None)
  nobody_rests unasked still fresh = record {
    stands = record {
      promised = λ k i e. absurd (both_ways false refl e);
      promises = λ i a e o n. absurd (both_ways (opened_at R v a.opened) (unasked i a e) o);
      waits = λ d k e. absurd (both_ways false refl e);
      waiting = λ d k e. absurd (both_ways false refl e);
      awaited = λ d k e. absurd (both_ways false refl e);
      no_cycle = λ k i e l. both_ways false refl e;
      stuck = λ k ks e. absurd (none-some ks e);
      batch = λ k ks e d q. absurd (none-some ks e);
      live = λ k. refl;
      each = λ k t e. absurd (none-some t e);
      running = still;
      fresh = λ k e n. fresh n k;
    };
    tasked = λ k a e. absurd (both_ways false refl e);
    wanted = λ k e. absurd (both_ways false refl e);
    closed = λ z k. refl;
  }

module _ {K V : Type 0} (eq : K → K → Bool) (equality : IsEquality eq) (m : Meaning K V) (R : List (Told K V)) (lawful : IsLawfulBack eq m R) (v : ℕ) (empty : open_count R v ≡ 0) (s : Asked K) (ts : K → Option (Task K V)) where
  module _ (h : VersionStands eq m R v [] s ts) (done : IsDone s) (all : List K) (finite : (q : K) → s.live q ≡ true → Has all q) where
    -- no promise is left, so each asker is a task, and waits
    asked_by : (q : K) → s.live q ≡ true → (j : K) × (s.asks q (Tasked j) ≡ true) × (s.live j ≡ true)
    asked_by q l = let d = done q l in by_asker d.0 d.1
      where
        by_asker : (a : By K) → s.asks q a ≡ true → (j : K) × (s.asks q (Tasked j) ≡ true) × (s.live j ≡ true)
        by_asker (Promised i) e = let p = h.promised q i e in absurd (both_ways (opened_at R v p.0.opened) (none_open v R (closes_open eq m R lawful) empty p.0.opened) p.2)
        by_asker (Tasked j) e = let w = h.waiting q j e in (j, e, h.live j ∙ going_where_waiting (ts j) w.0 w.1)

    -- no task is at work
    pub idle : (q : K) → s.live q ≡ false
    idle q = false_from_ne_true (s.live q) (none_live eq equality s all finite h.no_cycle asked_by q)

module _ {K V : Type 0} (eq : K → K → Bool) (equality : IsEquality eq) (m : Meaning K V) (law : IsLawful m) (R : List (Told K V)) (v : ℕ) where
  -- if each task at work has an asker, the version is at rest with no task and no ask
  pub emptied : (s : Asked K) (ts : K → Option (Task K V)) → VersionStands eq m R v [] s ts → IsLawfulBack eq m R → open_count R v ≡ 0 → IsDone s → (all : List K) → ((q : K) → s.live q ≡ true → Has all q) → IsAtRest eq m R v nobody (λ q. None)
  emptied s ts h lawful empty done all finite = nobody_rests eq m R v (λ i a e. none_open v R (closes_open eq m R lawful) empty a.opened) (λ k. h.running k ∙ idle_computes (ts k) (sym (h.live k) ∙ idle eq equality m R lawful v empty s ts h done all finite k)) (λ n k. absurd (omega arith))

-- before all events each version is at rest, with no task and no ask
pub first_rests : {K V : Type 0} (eq : K → K → Bool) (m : Meaning K V) (v : ℕ) → IsAtRest eq m [] v nobody (λ q. None)
first_rests eq m v = nobody_rests eq m [] v (λ i a e. refl) (λ k. refl) (λ n k. refl)
