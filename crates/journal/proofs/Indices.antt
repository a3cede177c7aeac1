-- Where the events stand that transactions and asks are named by; what an ask that is live says of its epoch; and that bases stay.
use Rattle.std.proofs.Common.{◌≡◌, ◌<◌, ℕ, zero, suc, Bool, true, false, cond, ◌&&◌, ◌||◌, eqb, List, [], ◌∷◌, length, Option, Some, None, refl, sym, ap, ◌∙◌, subst, arith}
use Rattle.std.proofs.lemmas.Bool.{both_ways, eqb-true, ne_eqb, and_from, and_right, or_left, or_right}
use Rattle.std.proofs.lemmas.Option.{same_Some, none-some}
use Rattle.dice_key.specs.Lawful.{IsEquality}
use Rattle.dice_key.specs.Meaning.{Meaning}
use Rattle.journal.specs.declared.event.Told.{Told}
use Rattle.journal.specs.declared.event.Told.TheVariants.{Open, Close, Ask, Leave, Keep, End}
use Rattle.journal.specs.Events.{Opened, Asking, is_for, names_by, begins, open_at, opened_at, open_count, live_at, asked_in_epoch, is_base}
use Rattle.journal.specs.Law.{IsLawfulBack}
use Rattle.journal.proofs.Lawful.{closes_open}
use Rattle.journal.proofs.Counts.{none_open}

-- an index before a list's end stands before that of a longer one
more : (i n : ℕ) → i < n → i < suc n
more i n l = omega arith

module _ {K V : Type 0} where
  -- an open transaction is named by an index before the journal's end
  pub opened_below : (R : List (Told K V)) (i : ℕ) (o : Opened) → open_at R i ≡ Some o → i < length R
  opened_below [] i o e = absurd (none-some o e)
  opened_below (Open by v ∷ R) i o e = by_index (eqb (length R) i) refl e (λ h. opened_below R i o h)
    where
      by_index : (b : Bool) → eqb (length R) i ≡ b → cond b (Some (record { by = by; version = v })) (open_at R i) ≡ Some o → (open_at R i ≡ Some o → i < length R) → i < suc (length R)
      by_index true p q again = let h = eqb-true (length R) i p in omega arith
      by_index false p q again = more i (length R) (again q)
  opened_below (Close by t ∷ R) i o e = by_index (eqb t i) e (λ h. opened_below R i o h)
    where
      by_index : (b : Bool) → cond b None (open_at R i) ≡ Some o → (open_at R i ≡ Some o → i < length R) → i < suc (length R)
      by_index true q again = absurd (none-some o q)
      by_index false q again = more i (length R) (again q)
  opened_below (_ ∷ R) i o e = more i (length R) (opened_below R i o e)

  -- a live ask is named by an index before the journal's end
  pub live_below : (R : List (Told K V)) (i : ℕ) (a : Asking K) → live_at R i ≡ Some a → i < length R
  live_below [] i a e = absurd (none-some a e)
  live_below (Ask by t k ∷ R) i a e = by_index (eqb (length R) i) refl e (λ h. live_below R i a h)
    where
      by_index : (b : Bool) → eqb (length R) i ≡ b → cond b (Some (record { by = by; opened = t; key = k })) (live_at R i) ≡ Some a → (live_at R i ≡ Some a → i < length R) → i < suc (length R)
      by_index true p q again = let h = eqb-true (length R) i p in omega arith
      by_index false p q again = more i (length R) (again q)
  live_below (Leave by l ∷ R) i a e = by_index (eqb l i) e (λ h. live_below R i a h)
    where
      by_index : (b : Bool) → cond b None (live_at R i) ≡ Some a → (live_at R i ≡ Some a → i < length R) → i < suc (length R)
      by_index true q again = absurd (none-some a q)
      by_index false q again = more i (length R) (again q)
  live_below (Close by t ∷ R) i a e = by_index (is_for (λ a. eqb t a.opened) (live_at R i)) e (λ h. live_below R i a h)
    where
      by_index : (b : Bool) → cond b None (live_at R i) ≡ Some a → (live_at R i ≡ Some a → i < length R) → i < suc (length R)
      by_index true q again = absurd (none-some a q)
      by_index false q again = more i (length R) (again q)
  live_below (_ ∷ R) i a e = more i (length R) (live_below R i a e)

  -- what is live after a Close was live before it, in another transaction
  pub still_live : (R : List (Told K V)) (t i : ℕ) (a : Asking K) → cond (is_for (λ a. eqb t a.opened) (live_at R i)) None (live_at R i) ≡ Some a → (live_at R i ≡ Some a) × (eqb t a.opened ≡ false)
  still_live R t i a e = by_live (live_at R i) e
    where
      by_live : (o : Option (Asking K)) → cond (is_for (λ a. eqb t a.opened) o) None o ≡ Some a → (o ≡ Some a) × (eqb t a.opened ≡ false)
      by_live None q = absurd (none-some a q)
      by_live (Some x) q = by_index (eqb t x.opened) refl q
        where
          by_index : (b : Bool) → eqb t x.opened ≡ b → cond b None (Some x) ≡ Some a → (Some x ≡ Some a) × (eqb t a.opened ≡ false)
          by_index true p r = absurd (none-some a r)
          by_index false p r = (r, ap (λ (y : Asking K). eqb t y.opened) (sym (same_Some _ _ r)) ∙ p)

  -- what is open stays open at an Open
  pub open_before : (R : List (Told K V)) (by w i : ℕ) (o : Opened) → open_at R i ≡ Some o → open_at (Open by w ∷ R) i ≡ Some o
  open_before R by w i o e = let z : eqb (length R) i ≡ false = ne_eqb (length R) i (λ h. (let l = opened_below R i o e in omega arith)) in rw z e

  pub opened_before : (R : List (Told K V)) (by w v i : ℕ) (o : Opened) → open_at R i ≡ Some o → opened_at (Open by w ∷ R) v i ≡ opened_at R v i
  opened_before R by w v i o e = ap (is_for (λ o. eqb o.version v)) (open_before R by w i o e ∙ sym e)

  -- an End or Keep stays one
  pub base_more : (eq : K → K → Bool) (R : List (Told K V)) (b : ℕ) (k : K) (e : Told K V) → is_base eq R b k ≡ true → is_base eq (e ∷ R) b k ≡ true
  base_more eq R b k (Keep w q c) h = or_right (names_by eq w q b k) (is_base eq R b k) h
  base_more eq R b k (End w q) h = or_right (names_by eq w q b k) (is_base eq R b k) h
  base_more eq R b k _ h = h

module _ {K V : Type 0} (eq : K → K → Bool) (m : Meaning K V) where
  -- the transaction of a live ask is open
  pub live_opened : (R : List (Told K V)) (i : ℕ) (a : Asking K) → IsLawfulBack eq m R → live_at R i ≡ Some a → (o : Opened) × (open_at R a.opened ≡ Some o)
  live_opened [] i a l e = absurd (none-some a e)
  live_opened (Ask by t k ∷ R) i a l e = by_index (eqb (length R) i) e (λ h. live_opened R i a l.1 h)
    where
      by_index : (b : Bool) → cond b (Some (record { by = by; opened = t; key = k })) (live_at R i) ≡ Some a → (live_at R i ≡ Some a → (o : Opened) × (open_at R a.opened ≡ Some o)) → (o : Opened) × (open_at R a.opened ≡ Some o)
      by_index true q again = let h : t ≡ a.opened = ap (λ (x : Asking K). x.opened) (same_Some _ _ q) in (l.0.0, subst (λ x. open_at R x ≡ Some l.0.0) h l.0.1)
      by_index false q again = again q
  live_opened (Leave by j ∷ R) i a l e = by_index (eqb j i) e (λ h. live_opened R i a l.1 h)
    where
      by_index : (b : Bool) → cond b None (live_at R i) ≡ Some a → (live_at R i ≡ Some a → (o : Opened) × (open_at R a.opened ≡ Some o)) → (o : Opened) × (open_at R a.opened ≡ Some o)
      by_index true q again = absurd (none-some a q)
      by_index false q again = again q
  live_opened (Close by t ∷ R) i a l e =
      let k = still_live R t i a e in
      let r = live_opened R i a l.1 k.0 in
      (r.0, rw (k.1) r.1)
  live_opened (Open by w ∷ R) i a l e = let r = live_opened R i a l.1 e in (r.0, open_before R by w a.opened r.0 r.1)
  live_opened (_ ∷ R) i a l e = live_opened R i a l.1 e

  -- if a transaction is open at v, their number there is not 0
  pub opened_counts : (R : List (Told K V)) (v i : ℕ) → IsLawfulBack eq m R → opened_at R v i ≡ true → 0 < open_count R v
  opened_counts R v i l e = by_count (open_count R v) refl
    where
      by_count : (n : ℕ) → open_count R v ≡ n → 0 < n
      by_count zero z = absurd (both_ways (opened_at R v i) (none_open v R (closes_open eq m R l) z i) e)
      by_count (suc n) z = omega arith

  -- at the version of a live ask a transaction is open
  pub live_counts : (R : List (Told K V)) (v i : ℕ) (a : Asking K) → IsLawfulBack eq m R → live_at R i ≡ Some a → opened_at R v a.opened ≡ true → 0 < open_count R v
  live_counts R v i a l e h = opened_counts R v a.opened l h

  -- an Open begins no epoch of a version at which a transaction is open
  pub begins_none : (R : List (Told K V)) (w v i : ℕ) → IsLawfulBack eq m R → opened_at R v i ≡ true → begins R w v ≡ false
  begins_none R w v i l e = and_right (eqb w v) (eqb (open_count R v) 0) (ne_eqb (open_count R v) 0 (λ z. (let h = opened_counts R v i l e in omega arith)))

module _ {K V : Type 0} (eq : K → K → Bool) (equality : IsEquality eq) (m : Meaning K V) where
  -- the key of a live ask was asked for in the epoch of its version
  pub live_asked : (R : List (Told K V)) (v i : ℕ) (a : Asking K) → IsLawfulBack eq m R → live_at R i ≡ Some a → opened_at R v a.opened ≡ true → asked_in_epoch eq R v a.key ≡ true
  live_asked [] v i a l e h = absurd (none-some a e)
  live_asked (Ask by t k ∷ R) v i a l e h = by_index (eqb (length R) i) e (λ p. live_asked R v i a l.1 p h)
    where
      by_index : (b : Bool) → cond b (Some (record { by = by; opened = t; key = k })) (live_at R i) ≡ Some a → (live_at R i ≡ Some a → asked_in_epoch eq R v a.key ≡ true) → ((opened_at R v t && eq a.key k) || asked_in_epoch eq R v a.key) ≡ true
      by_index true q again =
          let s = same_Some _ _ q in
          let p : opened_at R v t ≡ true = ap (λ (x : Asking K). opened_at R v x.opened) s ∙ h in
          let k_is : eq a.key k ≡ true = ap (λ (x : Asking K). eq x.key k) (sym s) ∙ equality.itself k in
          or_left (opened_at R v t && eq a.key k) (asked_in_epoch eq R v a.key) (and_from (opened_at R v t) (eq a.key k) p k_is)
      by_index false q again = or_right (opened_at R v t && eq a.key k) (asked_in_epoch eq R v a.key) (again q)
  live_asked (Leave by j ∷ R) v i a l e h = by_index (eqb j i) e (λ p. live_asked R v i a l.1 p h)
    where
      by_index : (b : Bool) → cond b None (live_at R i) ≡ Some a → (live_at R i ≡ Some a → asked_in_epoch eq R v a.key ≡ true) → asked_in_epoch eq R v a.key ≡ true
      by_index true q again = absurd (none-some a q)
      by_index false q again = again q
  live_asked (Close by t ∷ R) v i a l e h = let k = still_live R t i a e in live_asked R v i a l.1 k.0 (rw k.1 at h)
  live_asked (Open by w ∷ R) v i a l e h =
      let o = live_opened eq m R i a l.1 e in
      let p : opened_at R v a.opened ≡ true = sym (opened_before R by w v a.opened o.0 o.1) ∙ h in
      rw (begins_none eq m R w v a.opened l.1 p) (live_asked R v i a l.1 e p)
  live_asked (_ ∷ R) v i a l e h = live_asked R v i a l.1 e h
