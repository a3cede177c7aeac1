-- What the words on an epoch say, as membership among its events.
use Rattle.std.proofs.Common.{◌≡◌, ◌⊎◌, ◌<◌, ◌+◌, ℕ, suc, Bool, true, false, cond, not, ◌&&◌, ◌||◌, eqb, List, [], ◌∷◌, ◌++◌, length, Option, Some, None, inl, inr, refl, sym, ap, ◌∙◌, subst, arith}
use Rattle.std.proofs.lemmas.Bool.{both_ways, eqb-true, eq-eqb, ne_eqb, and_from, and_parts, or_left, or_right, or_cases, not-true}
use Rattle.std.proofs.lemmas.Option.{same_Some, none-some}
use Rattle.dice_key.specs.Lawful.{IsEquality}
use Rattle.dice_key.specs.Meaning.{Meaning}
use Rattle.journal.specs.declared.event.Told.{Told}
use Rattle.journal.specs.declared.event.Told.TheVariants.{Commit, Open, Close, Ask, Leave, Start, Keep, End, Cyclic, Drop, Lost}
use Rattle.journal.specs.declared.event.Reason.{Reason}
use Rattle.journal.specs.Events.{Opened, Decision, ByValue, ByCycle, is_for, names_by, begins, open_at, opened_at, decided, asked_in_epoch, lost_in_epoch, is_running, is_base}
use Rattle.journal.specs.Law.{IsLawfulBack}
use Rattle.journal.specs.Words.{event_at, begins_epoch, epoch_of, IsAskedAmong, HasKeptOrEnded, IsDecidedAmong, RunsByWords}
use Rattle.journal.proofs.Indices.{opened_below, base_more}
use Rattle.lists.specs.Lists.{Has}

module _ {K V : Type 0} where
  -- what stands in an epoch stands in the journal
  pub among : (R : List (Told K V)) (v : ℕ) (e : Told K V) → Has (epoch_of R v) e → Has R e
  among [] v e h = elim h [ ]
  among (x ∷ R) v e (inl h) = inl h
  among (x ∷ R) v e (inr h) = by_begin (begins_epoch x R v) h (λ g. among R v e g)
    where
      by_begin : (b : Bool) → Has (cond b [] (epoch_of R v)) e → (Has (epoch_of R v) e → Has R e) → Has (x ∷ R) e
      by_begin true g again = absurd g
      by_begin false g again = inr (again g)

  later_event : (x : Told K V) (R : List (Told K V)) (t : ℕ) (o : Opened) → open_at R t ≡ Some o → event_at R t ≡ Some (Open o.by o.version) → event_at (x ∷ R) t ≡ Some (Open o.by o.version)
  later_event x R t o q h = rw (ne_eqb (length R) t (λ i. (let l = opened_below R t o q in omega arith))) h

  -- an open transaction is named by the index of its Open
  pub open_event : (R : List (Told K V)) (t : ℕ) (o : Opened) → open_at R t ≡ Some o → event_at R t ≡ Some (Open o.by o.version)
  open_event [] t o e = absurd (none-some o e)
  open_event (Open by v ∷ R) t o e = by_index (eqb (length R) t) e (λ h. open_event R t o h)
    where
      by_index : (b : Bool) → cond b (Some (record { by = by; version = v })) (open_at R t) ≡ Some o → (open_at R t ≡ Some o → event_at R t ≡ Some (Open o.by o.version)) → cond b (Some (Open by v)) (event_at R t) ≡ Some (Open o.by o.version)
      by_index true q again = ap (λ (x : Opened). Some (Open x.by x.version)) (same_Some _ _ q)
      by_index false q again = again q
  open_event (Close by s ∷ R) t o e = by_index (eqb s t) e (λ h. open_event R t o h)
    where
      by_index : (b : Bool) → cond b None (open_at R t) ≡ Some o → (open_at R t ≡ Some o → event_at R t ≡ Some (Open o.by o.version)) → cond (eqb (length R) t) (Some (Close by s)) (event_at R t) ≡ Some (Open o.by o.version)
      by_index true q again = absurd (none-some o q)
      by_index false q again = later_event (Close by s) R t o q (again q)
  open_event (Commit c d ∷ R) t o h = later_event (Commit c d) R t o h (open_event R t o h)
  open_event (Ask c s q ∷ R) t o h = later_event (Ask c s q) R t o h (open_event R t o h)
  open_event (Leave c a ∷ R) t o h = later_event (Leave c a) R t o h (open_event R t o h)
  open_event (Start w q c ∷ R) t o h = later_event (Start w q c) R t o h (open_event R t o h)
  open_event (Keep w q b ∷ R) t o h = later_event (Keep w q b) R t o h (open_event R t o h)
  open_event (End w q ∷ R) t o h = later_event (End w q) R t o h (open_event R t o h)
  open_event (Cyclic w q ∷ R) t o h = later_event (Cyclic w q) R t o h (open_event R t o h)
  open_event (Drop w q ∷ R) t o h = later_event (Drop w q) R t o h (open_event R t o h)
  open_event (Lost w q ∷ R) t o h = later_event (Lost w q) R t o h (open_event R t o h)

module _ {K : Type 0} (eq : K → K → Bool) (equality : IsEquality eq) where
  pub itself : (v : ℕ) (k : K) → names_by eq v k v k ≡ true
  itself v k = ap (λ b. b && eq k k) (eq-eqb v v refl) ∙ equality.itself k

  -- an event that names (v, k) is of it
  same_version : (w v : ℕ) (q k : K) → names_by eq w q v k ≡ true → w ≡ v
  same_version w v q k h = eqb-true w v (and_parts (eqb w v) (eq k q) h).0

  same_key : (w v : ℕ) (q k : K) → names_by eq w q v k ≡ true → q ≡ k
  same_key w v q k h = sym (equality.same k q (and_parts (eqb w v) (eq k q) h).1)

  -- what is made of a version and a key is the same for these
  pub alike : {X : Type 0} (f : ℕ → K → X) (w v : ℕ) (q k : K) → names_by eq w q v k ≡ true → f w q ≡ f v k
  alike f w v q k h = ap (λ x. f x q) (same_version w v q k h) ∙ ap (f v) (same_key w v q k h)

module _ {K V : Type 0} (eq : K → K → Bool) (equality : IsEquality eq) where
  -- if an event is not this one, it does not name (v, k)
  pub not_named : (f : ℕ → K → Told K V) (w v : ℕ) (q k : K) → (f w q ≡ f v k → ⊥) → names_by eq w q v k ≡ false
  not_named f w v q k n = by_test (names_by eq w q v k) refl
    where
      by_test : (b : Bool) → names_by eq w q v k ≡ b → b ≡ false
      by_test true e = absurd (n (alike eq equality f w v q k e))
      by_test false e = refl

  one_more : (e : Told K V) (R : List (Told K V)) (b : ℕ) (k : K) → HasKeptOrEnded R b k → HasKeptOrEnded (e ∷ R) b k
  one_more e R b k (inl p) = inl (p.0, inr p.1)
  one_more e R b k (inr h) = inr (inr h)

  -- bases
  pub base_says : (R : List (Told K V)) (b : ℕ) (k : K) → is_base eq R b k ≡ true → HasKeptOrEnded R b k
  base_says [] b k e = cc
  base_says (Keep w q c ∷ R) b k e = elim (or_cases (names_by eq w q b k) (is_base eq R b k) e) [
    | inl h ↦ inl (c, inl (alike eq equality (λ x y. Keep x y c) w b q k h))
    | inr h ↦ one_more (Keep w q c) R b k (base_says R b k h)
  ]
  base_says (End w q ∷ R) b k e = elim (or_cases (names_by eq w q b k) (is_base eq R b k) e) [
    | inl h ↦ inr (inl (alike eq equality End w b q k h))
    | inr h ↦ one_more (End w q) R b k (base_says R b k h)
  ]
  base_says (Commit c d ∷ R) x k h = one_more (Commit c d) R x k (base_says R x k h)
  base_says (Open c w ∷ R) x k h = one_more (Open c w) R x k (base_says R x k h)
  base_says (Close c t ∷ R) x k h = one_more (Close c t) R x k (base_says R x k h)
  base_says (Ask c t q ∷ R) x k h = one_more (Ask c t q) R x k (base_says R x k h)
  base_says (Leave c a ∷ R) x k h = one_more (Leave c a) R x k (base_says R x k h)
  base_says (Start w q c ∷ R) x k h = one_more (Start w q c) R x k (base_says R x k h)
  base_says (Cyclic w q ∷ R) x k h = one_more (Cyclic w q) R x k (base_says R x k h)
  base_says (Drop w q ∷ R) x k h = one_more (Drop w q) R x k (base_says R x k h)
  base_says (Lost w q ∷ R) x k h = one_more (Lost w q) R x k (base_says R x k h)

  keep_found : (R : List (Told K V)) (b c : ℕ) (k : K) → Has R (Keep b k c) → is_base eq R b k ≡ true
  keep_found [] b c k h = elim h [ ]
  keep_found (x ∷ R) b c k (inl e) = subst (λ y. is_base eq (y ∷ R) b k ≡ true) (sym e) (or_left (names_by eq b k b k) (is_base eq R b k) (itself eq equality b k))
  keep_found (x ∷ R) b c k (inr h) = base_more eq R b k x (keep_found R b c k h)

  end_found : (R : List (Told K V)) (b : ℕ) (k : K) → Has R (End b k) → is_base eq R b k ≡ true
  end_found [] b k h = elim h [ ]
  end_found (x ∷ R) b k (inl e) = subst (λ y. is_base eq (y ∷ R) b k ≡ true) (sym e) (or_left (names_by eq b k b k) (is_base eq R b k) (itself eq equality b k))
  end_found (x ∷ R) b k (inr h) = base_more eq R b k x (end_found R b k h)

  pub base_found : (R : List (Told K V)) (b : ℕ) (k : K) → HasKeptOrEnded R b k → is_base eq R b k ≡ true
  base_found R b k (inl p) = keep_found R b p.0 k p.1
  base_found R b k (inr h) = end_found R b k h

  -- what an epoch has decided
  decided_later : (E : List (Told K V)) (e : Told K V) (v : ℕ) (k : K) (d : Decision) → IsDecidedAmong E v k d → IsDecidedAmong (e ∷ E) v k d
  decided_later E e v k ByValue (inl p) = inl (p.0, inr p.1)
  decided_later E e v k ByValue (inr h) = inr (inr h)
  decided_later E e v k ByCycle h = inr h

  pub decided_says : (R : List (Told K V)) (v : ℕ) (k : K) (d : Decision) → decided eq R v k ≡ Some d → IsDecidedAmong (epoch_of R v) v k d
  decided_says [] v k d e = absurd (none-some d e)
  decided_says (Open c w ∷ R) v k d e = by_begin (begins R w v) e (λ h. decided_says R v k d h)
    where
      by_begin : (b : Bool) → cond b None (decided eq R v k) ≡ Some d → (decided eq R v k ≡ Some d → IsDecidedAmong (epoch_of R v) v k d) → IsDecidedAmong (Open c w ∷ cond b [] (epoch_of R v)) v k d
      by_begin true q again = absurd (none-some d q)
      by_begin false q again = decided_later (epoch_of R v) (Open c w) v k d (again q)
  decided_says (Keep w q b ∷ R) v k d e = by_name (names_by eq w q v k) refl e (λ h. decided_says R v k d h)
    where
      by_name : (x : Bool) → names_by eq w q v k ≡ x → cond x (Some ByValue) (decided eq R v k) ≡ Some d → (decided eq R v k ≡ Some d → IsDecidedAmong (epoch_of R v) v k d) → IsDecidedAmong (Keep w q b ∷ epoch_of R v) v k d
      by_name true n g again = subst (IsDecidedAmong (Keep w q b ∷ epoch_of R v) v k) (same_Some _ _ g) (inl (b, inl (alike eq equality (λ x y. Keep x y b) w v q k n)))
      by_name false n g again = decided_later (epoch_of R v) (Keep w q b) v k d (again g)
  decided_says (End w q ∷ R) v k d e = by_name (names_by eq w q v k) refl e (λ h. decided_says R v k d h)
    where
      by_name : (x : Bool) → names_by eq w q v k ≡ x → cond x (Some ByValue) (decided eq R v k) ≡ Some d → (decided eq R v k ≡ Some d → IsDecidedAmong (epoch_of R v) v k d) → IsDecidedAmong (End w q ∷ epoch_of R v) v k d
      by_name true n g again = subst (IsDecidedAmong (End w q ∷ epoch_of R v) v k) (same_Some _ _ g) (inr (inl (alike eq equality End w v q k n)))
      by_name false n g again = decided_later (epoch_of R v) (End w q) v k d (again g)
  decided_says (Cyclic w q ∷ R) v k d e = by_name (names_by eq w q v k) refl e (λ h. decided_says R v k d h)
    where
      by_name : (x : Bool) → names_by eq w q v k ≡ x → cond x (Some ByCycle) (decided eq R v k) ≡ Some d → (decided eq R v k ≡ Some d → IsDecidedAmong (epoch_of R v) v k d) → IsDecidedAmong (Cyclic w q ∷ epoch_of R v) v k d
      by_name true n g again = subst (IsDecidedAmong (Cyclic w q ∷ epoch_of R v) v k) (same_Some _ _ g) (inl (alike eq equality Cyclic w v q k n))
      by_name false n g again = decided_later (epoch_of R v) (Cyclic w q) v k d (again g)
  decided_says (Commit c d ∷ R) v k x h = decided_later (epoch_of R v) (Commit c d) v k x (decided_says R v k x h)
  decided_says (Close c t ∷ R) v k x h = decided_later (epoch_of R v) (Close c t) v k x (decided_says R v k x h)
  decided_says (Ask c t q ∷ R) v k x h = decided_later (epoch_of R v) (Ask c t q) v k x (decided_says R v k x h)
  decided_says (Leave c a ∷ R) v k x h = decided_later (epoch_of R v) (Leave c a) v k x (decided_says R v k x h)
  decided_says (Start w q c ∷ R) v k x h = decided_later (epoch_of R v) (Start w q c) v k x (decided_says R v k x h)
  decided_says (Drop w q ∷ R) v k x h = decided_later (epoch_of R v) (Drop w q) v k x (decided_says R v k x h)
  decided_says (Lost w q ∷ R) v k x h = decided_later (epoch_of R v) (Lost w q) v k x (decided_says R v k x h)

  -- an epoch has decided a key only as it is found: no key is decided twice in an epoch of a lawful journal
  decided_first : (d : Decision) (e : Told K V) (E R : List (Told K V)) (v : ℕ) (k : K) → IsDecidedAmong (e ∷ E) v k d
      → ((b : ℕ) → d ≡ ByValue → e ≡ Keep v k b → decided eq (e ∷ R) v k ≡ Some d) → (d ≡ ByValue → e ≡ End v k → decided eq (e ∷ R) v k ≡ Some d)
      → (d ≡ ByCycle → e ≡ Cyclic v k → decided eq (e ∷ R) v k ≡ Some d) → (IsDecidedAmong E v k d → decided eq (e ∷ R) v k ≡ Some d) → decided eq (e ∷ R) v k ≡ Some d
  decided_first ByValue e E R v k (inl p) keep end cycle again = elim p.1 [ inl h ↦ keep p.0 refl h | inr h ↦ again (inl (p.0, h)) ]
  decided_first ByValue e E R v k (inr h) keep end cycle again = elim h [ inl g ↦ end refl g | inr g ↦ again (inr g) ]
  decided_first ByCycle e E R v k h keep end cycle again = elim h [ inl g ↦ cycle refl g | inr g ↦ again g ]

  now_kept : (e : Told K V) (R : List (Told K V)) (v b : ℕ) (k : K) (d : Decision) → d ≡ ByValue → e ≡ Keep v k b → decided eq (e ∷ R) v k ≡ Some d
  now_kept e R v b k d i h = subst (λ x. decided eq (x ∷ R) v k ≡ Some d) (sym h) (ap (λ t. cond t (Some ByValue) (decided eq R v k)) (itself eq equality v k) ∙ ap Some (sym i))

  now_ended : (e : Told K V) (R : List (Told K V)) (v : ℕ) (k : K) (d : Decision) → d ≡ ByValue → e ≡ End v k → decided eq (e ∷ R) v k ≡ Some d
  now_ended e R v k d i h = subst (λ x. decided eq (x ∷ R) v k ≡ Some d) (sym h) (ap (λ t. cond t (Some ByValue) (decided eq R v k)) (itself eq equality v k) ∙ ap Some (sym i))

  now_cyclic : (e : Told K V) (R : List (Told K V)) (v : ℕ) (k : K) (d : Decision) → d ≡ ByCycle → e ≡ Cyclic v k → decided eq (e ∷ R) v k ≡ Some d
  now_cyclic e R v k d i h = subst (λ x. decided eq (x ∷ R) v k ≡ Some d) (sym h) (ap (λ t. cond t (Some ByCycle) (decided eq R v k)) (itself eq equality v k) ∙ ap Some (sym i))

  -- an event that decides (w, q), which was undecided, leaves (v, k) as it was decided
  still_decided : (R : List (Told K V)) (w v : ℕ) (q k : K) (d n : Decision) → decided eq R w q ≡ None → decided eq R v k ≡ Some d → cond (names_by eq w q v k) (Some n) (decided eq R v k) ≡ Some d
  still_decided R w v q k d n u h = by_name (names_by eq w q v k) refl
    where
      by_name : (x : Bool) → names_by eq w q v k ≡ x → cond x (Some n) (decided eq R v k) ≡ Some d
      by_name true e = absurd (none-some d (sym u ∙ (alike eq equality (decided eq R) w v q k e ∙ h)))
      by_name false e = h

  none_decided : (E : List (Told K V)) (v : ℕ) (k : K) (d : Decision) → E ≡ [] → IsDecidedAmong E v k d → ⊥
  none_decided [] v k ByValue e h = elim h [ inl p ↦ elim p.1 [ ] | inr g ↦ elim g [ ] ]
  none_decided [] v k ByCycle e h = elim h [ ]
  none_decided (x ∷ E) v k d e h = cc

  module _ (m : Meaning K V) where
    pub decided_found : (R : List (Told K V)) (v : ℕ) (k : K) (d : Decision) → IsLawfulBack eq m R → IsDecidedAmong (epoch_of R v) v k d → decided eq R v k ≡ Some d
    decided_found [] v k d l h = absurd (none_decided [] v k d refl h)
    decided_found (Open c w ∷ R) v k d l h = by_begin (begins R w v) h (λ g. decided_found R v k d l.1 g)
      where
        tail : (b : Bool) (d : Decision) → IsDecidedAmong (Open c w ∷ cond b [] (epoch_of R v)) v k d → IsDecidedAmong (cond b [] (epoch_of R v)) v k d
        tail b ByValue (inl p) = elim p.1 [ inl e ↦ cc | inr g ↦ inl (p.0, g) ]
        tail b ByValue (inr g) = elim g [ inl e ↦ cc | inr i ↦ inr i ]
        tail b ByCycle g = elim g [ inl e ↦ cc | inr i ↦ i ]

        by_begin : (b : Bool) → IsDecidedAmong (Open c w ∷ cond b [] (epoch_of R v)) v k d → (IsDecidedAmong (epoch_of R v) v k d → decided eq R v k ≡ Some d) → cond b None (decided eq R v k) ≡ Some d
        by_begin true g again = absurd (none_decided [] v k d refl (tail true d g))
        by_begin false g again = again (tail false d g)
    decided_found (Keep w q b ∷ R) v k d l h = decided_first d (Keep w q b) (epoch_of R v) R v k h (λ c i e. now_kept (Keep w q b) R v c k d i e) (now_ended (Keep w q b) R v k d) (now_cyclic (Keep w q b) R v k d)
        (λ g. still_decided R w v q k d ByValue l.0.1.0 (decided_found R v k d l.1 g))
    decided_found (End w q ∷ R) v k d l h = decided_first d (End w q) (epoch_of R v) R v k h (λ c i e. now_kept (End w q) R v c k d i e) (now_ended (End w q) R v k d) (now_cyclic (End w q) R v k d)
        (λ g. still_decided R w v q k d ByValue l.0.2 (decided_found R v k d l.1 g))
    decided_found (Cyclic w q ∷ R) v k d l h = decided_first d (Cyclic w q) (epoch_of R v) R v k h (λ c i e. now_kept (Cyclic w q) R v c k d i e) (now_ended (Cyclic w q) R v k d) (now_cyclic (Cyclic w q) R v k d)
        (λ g. still_decided R w v q k d ByCycle l.0.1 (decided_found R v k d l.1 g))
    decided_found (Commit c d ∷ R) v k n l h = decided_first n (Commit c d) (epoch_of R v) R v k h (λ x i f. now_kept (Commit c d) R v x k n i f) (now_ended (Commit c d) R v k n) (now_cyclic (Commit c d) R v k n)
        (λ g. decided_found R v k n l.1 g)
    decided_found (Close c s ∷ R) v k n l h = decided_first n (Close c s) (epoch_of R v) R v k h (λ x i f. now_kept (Close c s) R v x k n i f) (now_ended (Close c s) R v k n) (now_cyclic (Close c s) R v k n)
        (λ g. decided_found R v k n l.1 g)
    decided_found (Ask c s q ∷ R) v k n l h = decided_first n (Ask c s q) (epoch_of R v) R v k h (λ x i f. now_kept (Ask c s q) R v x k n i f) (now_ended (Ask c s q) R v k n) (now_cyclic (Ask c s q) R v k n)
        (λ g. decided_found R v k n l.1 g)
    decided_found (Leave c a ∷ R) v k n l h = decided_first n (Leave c a) (epoch_of R v) R v k h (λ x i f. now_kept (Leave c a) R v x k n i f) (now_ended (Leave c a) R v k n) (now_cyclic (Leave c a) R v k n)
        (λ g. decided_found R v k n l.1 g)
    decided_found (Start w q c ∷ R) v k n l h = decided_first n (Start w q c) (epoch_of R v) R v k h (λ x i f. now_kept (Start w q c) R v x k n i f) (now_ended (Start w q c) R v k n) (now_cyclic (Start w q c) R v k n)
        (λ g. decided_found R v k n l.1 g)
    decided_found (Drop w q ∷ R) v k n l h = decided_first n (Drop w q) (epoch_of R v) R v k h (λ x i f. now_kept (Drop w q) R v x k n i f) (now_ended (Drop w q) R v k n) (now_cyclic (Drop w q) R v k n)
        (λ g. decided_found R v k n l.1 g)
    decided_found (Lost w q ∷ R) v k n l h = decided_first n (Lost w q) (epoch_of R v) R v k h (λ x i f. now_kept (Lost w q) R v x k n i f) (now_ended (Lost w q) R v k n) (now_cyclic (Lost w q) R v k n)
        (λ g. decided_found R v k n l.1 g)

  -- what was lost in an epoch
  pub lost_says : (R : List (Told K V)) (v : ℕ) (k : K) → lost_in_epoch eq R v k ≡ true → Has (epoch_of R v) (Lost v k)
  lost_says [] v k e = cc
  lost_says (Open c w ∷ R) v k e = by_begin (begins R w v) e (λ h. lost_says R v k h)
    where
      by_begin : (b : Bool) → cond b false (lost_in_epoch eq R v k) ≡ true → (lost_in_epoch eq R v k ≡ true → Has (epoch_of R v) (Lost v k)) → Has (Open c w ∷ cond b [] (epoch_of R v)) (Lost v k)
      by_begin true q again = cc
      by_begin false q again = inr (again q)
  lost_says (Lost w q ∷ R) v k e = elim (or_cases (names_by eq w q v k) (lost_in_epoch eq R v k) e) [ inl h ↦ inl (alike eq equality Lost w v q k h) | inr h ↦ inr (lost_says R v k h) ]
  lost_says (Commit c d ∷ R) v k h = inr (lost_says R v k h)
  lost_says (Close c s ∷ R) v k h = inr (lost_says R v k h)
  lost_says (Ask c s q ∷ R) v k h = inr (lost_says R v k h)
  lost_says (Leave c a ∷ R) v k h = inr (lost_says R v k h)
  lost_says (Start w q c ∷ R) v k h = inr (lost_says R v k h)
  lost_says (Keep w q b ∷ R) v k h = inr (lost_says R v k h)
  lost_says (End w q ∷ R) v k h = inr (lost_says R v k h)
  lost_says (Cyclic w q ∷ R) v k h = inr (lost_says R v k h)
  lost_says (Drop w q ∷ R) v k h = inr (lost_says R v k h)

  pub lost_found : (R : List (Told K V)) (v : ℕ) (k : K) → Has (epoch_of R v) (Lost v k) → lost_in_epoch eq R v k ≡ true
  lost_found [] v k h = elim h [ ]
  lost_found (Open c w ∷ R) v k h = by_begin (begins R w v) h (λ g. lost_found R v k g)
    where
      by_begin : (b : Bool) → Has (Open c w ∷ cond b [] (epoch_of R v)) (Lost v k) → (Has (epoch_of R v) (Lost v k) → lost_in_epoch eq R v k ≡ true) → cond b false (lost_in_epoch eq R v k) ≡ true
      by_begin true g again = elim g [ inl e ↦ cc | inr i ↦ elim i [ ] ]
      by_begin false g again = elim g [ inl e ↦ cc | inr i ↦ again i ]
  lost_found (Lost w q ∷ R) v k h = elim h [
    | inl e ↦ subst (λ x. lost_in_epoch eq (x ∷ R) v k ≡ true) (sym e) (or_left (names_by eq v k v k) (lost_in_epoch eq R v k) (itself eq equality v k))
    | inr g ↦ or_right (names_by eq w q v k) (lost_in_epoch eq R v k) (lost_found R v k g)
  ]
  lost_found (Commit c d ∷ R) v k h = elim h [ inl e ↦ cc | inr g ↦ lost_found R v k g ]
  lost_found (Close c s ∷ R) v k h = elim h [ inl e ↦ cc | inr g ↦ lost_found R v k g ]
  lost_found (Ask c s q ∷ R) v k h = elim h [ inl e ↦ cc | inr g ↦ lost_found R v k g ]
  lost_found (Leave c a ∷ R) v k h = elim h [ inl e ↦ cc | inr g ↦ lost_found R v k g ]
  lost_found (Start w q c ∷ R) v k h = elim h [ inl e ↦ cc | inr g ↦ lost_found R v k g ]
  lost_found (Keep w q b ∷ R) v k h = elim h [ inl e ↦ cc | inr g ↦ lost_found R v k g ]
  lost_found (End w q ∷ R) v k h = elim h [ inl e ↦ cc | inr g ↦ lost_found R v k g ]
  lost_found (Cyclic w q ∷ R) v k h = elim h [ inl e ↦ cc | inr g ↦ lost_found R v k g ]
  lost_found (Drop w q ∷ R) v k h = elim h [ inl e ↦ cc | inr g ↦ lost_found R v k g ]
