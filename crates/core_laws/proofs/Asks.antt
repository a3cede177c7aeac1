-- An Ask at a version makes one promise more there, of a key that is not injected; other versions are as they were.
use Rattle.std.proofs.Common.{◌≡◌, ◌≢◌, ◌⊎◌, inl, inr, ℕ, Bool, true, false, cond, ◌&&◌, ◌||◌, eqb, List, [], ◌∷◌, length, Option, Some, refl, sym, ap, ◌∙◌, arith, append-nil}
use Rattle.std.proofs.lemmas.Bool.{eqb-true, eq-eqb, ne_eqb, and_parts, and_from, and_right, or_cases, or_left, or_right}
use Rattle.std.proofs.lemmas.Option.{same_Some}
use Rattle.dice_key.specs.Lawful.{IsEquality, IsLawful}
use Rattle.dice_key.specs.Meaning.{Meaning}
use Rattle.dice_key.specs.declared.universe.Kind.{Kind}
use Rattle.dice_key.specs.declared.universe.Kind.TheVariants.{Injected, Computed, Projection}
use Rattle.task_share.specs.Asked.{Promised, Tasked, is_by, Asked}
use Rattle.journal.specs.declared.event.Told.{Told}
use Rattle.journal.specs.declared.event.Told.TheVariants.{Ask}
use Rattle.journal.specs.Events.{Opened, Asking, is_for, commits_of, open_at, opened_at, live_at, asked_in_epoch}
use Rattle.core_laws.specs.Tasks.{Task}
use Rattle.core_laws.specs.Stands.{VersionStands, IsAtRest}
use Rattle.core_laws.specs.Changes.{SameAsks, SameLives, Joins}
use Rattle.journal.proofs.Indices.{live_below}
use Rattle.core_laws.proofs.Opens.{there_open}
use Rattle.core_laws.proofs.Frames.{Carries, Promises, version_on, version_stays, rest_stays}

-- whether a key is injected
pub injected_or_not : {K V : Type 0} (m : Meaning K V) (k : K) → (m.kind k ≡ Injected) ⊎ (m.kind k ≢ Injected)
injected_or_not m k = by_kind (m.kind k) refl
  where
    by_kind : (d : Kind) → m.kind k ≡ d → (m.kind k ≡ Injected) ⊎ (m.kind k ≢ Injected)
    by_kind Injected e = inl e
    by_kind Computed e = inr (λ h. let z : Computed ≡ Injected = sym e ∙ h in cc)
    by_kind Projection e = inr (λ h. let z : Projection ≡ Injected = sym e ∙ h in cc)

or_none : (b c : Bool) → c ≡ false → (b || c) ≡ b
or_none true c e = refl
or_none false c e = e

module _ {K V : Type 0} (eq : K → K → Bool) (R : List (Told K V)) (by t : ℕ) (k : K) where
  carries : (v : ℕ) → Carries eq R (Ask by t k ∷ R) v
  carries v = record {
    later = [];
    commits = sym (append-nil (commits_of R));
    longer = omega arith;
    counts = λ h. h;
    decides = λ q. refl;
    asks = λ q h. or_right (opened_at R v t && eq q k) (asked_in_epoch eq R v q) h;
    runs = λ q. refl;
    loses = λ q h. h;
    bases = λ b q h. h;
  }

  -- this ask
  abbrev made : Asking K
  made = record { by = by; opened = t; key = k }

  -- what was live is live
  live_more : (i : ℕ) (a : Asking K) → live_at R i ≡ Some a → live_at (Ask by t k ∷ R) i ≡ Some a
  live_more i a e = let z : eqb (length R) i ≡ false = ne_eqb (length R) i (λ h. (let l = live_below R i a e in omega arith)) in rw z e

  -- what is live was live, or is this ask
  live_cases : (i : ℕ) (a : Asking K) → live_at (Ask by t k ∷ R) i ≡ Some a → (live_at R i ≡ Some a) ⊎ ((length R ≡ i) × (made ≡ a))
  live_cases i a e = by_index (eqb (length R) i) refl e
    where
      by_index : (b : Bool) → eqb (length R) i ≡ b → cond b (Some made) (live_at R i) ≡ Some a → (live_at R i ≡ Some a) ⊎ ((length R ≡ i) × (made ≡ a))
      by_index true p q = inr (eqb-true (length R) i p, same_Some made a q)
      by_index false p q = inl q

module _ {K V : Type 0} (eq : K → K → Bool) (equality : IsEquality eq) (m : Meaning K V) (R : List (Told K V)) (v by t : ℕ) (k : K) (o : Opened) (open_is : open_at R t ≡ Some o) where
  module _ (at : o.version ≡ v) (W : List K) (s u : Asked K) (ts : K → Option (Task K V)) (h : VersionStands eq m R v W s ts) where
    opened_here : opened_at R v t ≡ true
    opened_here = there_open R v t o open_is at

    old_promised : (q : K) (i : ℕ) → s.asks q (Promised i) ≡ true → (a : Asking K) × (live_at (Ask by t k ∷ R) i ≡ Some a) × (opened_at R v a.opened ≡ true) × (a.key ≡ q)
    old_promised q i e = let p = h.promised q i e in (p.0, live_more eq R by t k i p.0 p.1, p.2, p.3)

    -- an injected key is not promised
    asked_injected : m.kind k ≡ Injected → SameAsks eq s u → Promises m (Ask by t k ∷ R) v u
    asked_injected d same = record {
      promised = λ q i e. old_promised q i (sym (same q (Promised i)) ∙ e);
      promises = λ i a e p n. elim (live_cases eq R by t k i a e) as (λ _. u.asks a.key (Promised i) ≡ true) [
        | inl l ↦ same a.key (Promised i) ∙ h.promises i a l p n
        | inr z ↦ absurd (n (ap (λ (x : Asking K). m.kind x.key) (sym z.1) ∙ d))
      ];
    }

    asked_computed : Joins eq k (Promised (length R)) s u → Promises m (Ask by t k ∷ R) v u
    asked_computed join = record {
      promised = λ q i e. elim (or_cases (s.asks q (Promised i)) _ (sym (join q (Promised i)) ∙ e)) as (λ _. (a : Asking K) × (live_at (Ask by t k ∷ R) i ≡ Some a) × (opened_at R v a.opened ≡ true) × (a.key ≡ q)) [
        | inl l ↦ old_promised q i l
        | inr z ↦ (let y = and_parts (eq k q) _ z in let x : eqb (length R) i ≡ true = y.1 in (made eq R by t k, rw x refl, opened_here, equality.same k q y.0))
      ];
      promises = λ i a e p n. join a.key (Promised i) ∙ elim (live_cases eq R by t k i a e) as (λ _. (s.asks a.key (Promised i) || (eq k a.key && is_by eq (Promised (length R)) (Promised i))) ≡ true) [
        | inl l ↦ or_left (s.asks a.key (Promised i)) _ (h.promises i a l p n)
        | inr z ↦ or_right (s.asks a.key (Promised i)) _ (and_from (eq k a.key) _ (ap (λ (x : Asking K). eq k x.key) (sym z.1) ∙ equality.itself k) (eq-eqb (length R) i z.0))
      ];
    }

  -- an Ask at another version
  module _ (at : o.version ≢ v) (s : Asked K) (ts : K → Option (Task K V)) where
    promises_stay : (W : List K) → VersionStands eq m R v W s ts → Promises m (Ask by t k ∷ R) v s
    promises_stay W h = record {
      promised = λ q i e. (let p = h.promised q i e in (p.0, live_more eq R by t k i p.0 p.1, p.2, p.3));
      promises = λ i a e p n. elim (live_cases eq R by t k i a e) as (λ _. s.asks a.key (Promised i) ≡ true) [
        | inl l ↦ h.promises i a l p n
        | inr z ↦ absurd (at (eqb-true o.version v (ap (is_for (λ (x : Opened). eqb x.version v)) (sym open_is) ∙ (ap (λ (x : Asking K). opened_at R v x.opened) z.1 ∙ p))))
      ];
    }

module _ {K V : Type 0} (eq : K → K → Bool) (equality : IsEquality eq) (m : Meaning K V) (law : IsLawful m) (R : List (Told K V)) (v : ℕ) where
  -- an Ask at v itself
  pub asked : (W : List K) (s u : Asked K) (ts : K → Option (Task K V)) (by t : ℕ) (k : K) (o : Opened) → VersionStands eq m R v W s ts → open_at R t ≡ Some o → o.version ≡ v
      → (m.kind k ≡ Injected → SameAsks eq s u) → (m.kind k ≢ Injected → Joins eq k (Promised (length R)) s u) → SameLives eq s u → VersionStands eq m (Ask by t k ∷ R) v W u ts
  asked W s u ts by t k o h open_is at stays joins lives = elim (injected_or_not m k) as (λ _. VersionStands eq m (Ask by t k ∷ R) v W u ts) [
    | inl d ↦ version_on eq m R (Ask by t k ∷ R) v (carries eq R by t k v) W s u ts h lives (λ q j. stays d q (Tasked j)) (asked_injected eq equality m R v by t k o open_is at W s u ts h d (stays d))
    | inr n ↦ version_on eq m R (Ask by t k ∷ R) v (carries eq R by t k v) W s u ts h lives (λ d j. joins n d (Tasked j) ∙ or_none (s.asks d (Tasked j)) _ (and_right (eq k d) false refl)) (asked_computed eq equality m R v by t k o open_is at W s u ts h (joins n))
  ]

  -- an Ask at another version
  pub asked_elsewhere : (W : List K) (s : Asked K) (ts : K → Option (Task K V)) (by t : ℕ) (k : K) (o : Opened) → VersionStands eq m R v W s ts → open_at R t ≡ Some o → o.version ≢ v → VersionStands eq m (Ask by t k ∷ R) v W s ts
  asked_elsewhere W s ts by t k o h open_is at = version_stays eq m R (Ask by t k ∷ R) v (carries eq R by t k v) s ts (promises_stay eq equality m R v by t k o open_is at s ts W h) W h

  pub asked_elsewhere_rests : (s : Asked K) (ts : K → Option (Task K V)) (by t : ℕ) (k : K) (o : Opened) → IsAtRest eq m R v s ts → open_at R t ≡ Some o → o.version ≢ v → IsAtRest eq m (Ask by t k ∷ R) v s ts
  asked_elsewhere_rests s ts by t k o h open_is at = rest_stays eq m R (Ask by t k ∷ R) v (carries eq R by t k v) s ts (promises_stay eq equality m R v by t k o open_is at s ts [] h.stands) (λ z. z) h

-- with an Ask its key was asked for in the epoch of its transaction's version
pub asked_now : {K V : Type 0} (eq : K → K → Bool) → IsEquality eq → (R : List (Told K V)) (v by t : ℕ) (k : K) → opened_at R v t ≡ true → asked_in_epoch eq (Ask by t k ∷ R) v k ≡ true
asked_now eq equality R v by t k e = or_left (opened_at R v t && eq k k) (asked_in_epoch eq R v k) (and_from (opened_at R v t) (eq k k) e (equality.itself k))
