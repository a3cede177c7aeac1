-- What is decided stays decided while a transaction is open at its version; and a transaction is closed once.
use Rattle.std.proofs.Common.{◌≡◌, ◌<◌, ◌⊎◌, inl, inr, ℕ, Bool, true, false, cond, eqb, List, [], ◌∷◌, ◌++◌, length, Some, None, refl, sym, ap, ◌∙◌, subst, arith, append_assoc, length-append, eqb-true}
use Rattle.std.specs.Prelude.{reverse}
use Rattle.std.proofs.lemmas.Bool.{eq-eqb, ne_eqb, and_parts}
use Rattle.std.proofs.lemmas.List.{reverse-append}
use Rattle.std.proofs.lemmas.Option.{none-some}
use Rattle.dice_key.specs.Lawful.{IsEquality}
use Rattle.dice_key.specs.Meaning.{Meaning}
use Rattle.journal.specs.declared.event.Told.{Told}
use Rattle.journal.specs.declared.event.Told.TheVariants.{Commit, Open, Close, Ask, Leave, Start, Keep, End, Cyclic, Drop, Lost}
use Rattle.journal.specs.Events.{Opened, Decision, ByValue, ByCycle, NotClosed, is_for, names_by, open_at, opened_at, decided, StandsAt}
use Rattle.journal.specs.Law.{IsLawfulBack, IsLawfulJournal}
use Rattle.journal.proofs.Lawful.{lawful_front}
use Rattle.journal.proofs.Indices.{begins_none}
use Rattle.turnstile.specs.Events.{StartsWith}
use Rattle.dice_engine.specs.Seats.{SeatView}
use Rattle.dice_engine.specs.Turns.{Later, Turn}
use Rattle.dice_engine.specs.Conditions.{HasOpen}
use Rattle.dice_engine.specs.Calls.{Closes}
use Rattle.dice_engine.proofs.Indices.{back_get, back_below, from_front, open_unclosed}
use Rattle.dice_engine.proofs.Kept.{same_opened, has_open}
use Rattle.dice_engine.proofs.Begun.{found_lawful}
use Rattle.dice_engine.proofs.Callers.{same_number, stands_longer, open_later, open_in_seen}
use Rattle.lists.proofs.Members.{reverse_has}
use Rattle.lists.specs.Lists.{Has}

module _ {K V : Type 0} where
  -- what is open after an event was open before it, if its Open stands there
  open_before : (e : Told K V) (R : List (Told K V)) (t : ℕ) (o : Opened) → t < length R → open_at (e ∷ R) t ≡ Some o → open_at R t ≡ Some o
  open_before (Open by w) R t o l h = sym (ap (λ b. cond b (Some (record { by = by; version = w })) (open_at R t)) (ne_eqb (length R) t (λ q. omega arith))) ∙ h
  open_before (Close by u) R t o l h = by_index (eqb u t) h
    where
      by_index : (b : Bool) → cond b None (open_at R t) ≡ Some o → open_at R t ≡ Some o
      by_index true q = absurd (none-some o q)
      by_index false q = q
  open_before (Commit by c) R t o l h = h
  open_before (Ask by u k) R t o l h = h
  open_before (Leave by a) R t o l h = h
  open_before (Start w k c) R t o l h = h
  open_before (Keep w k b) R t o l h = h
  open_before (End w k) R t o l h = h
  open_before (Cyclic w k) R t o l h = h
  open_before (Drop w k) R t o l h = h
  open_before (Lost w k) R t o l h = h

  -- a transaction that is open, and at v
  opened_so : (R : List (Told K V)) (v t : ℕ) (o : Opened) → open_at R t ≡ Some o → o.version ≡ v → opened_at R v t ≡ true
  opened_so R v t o h e = ap (is_for (λ (x : Opened). eqb x.version v)) h ∙ eq-eqb o.version v e

module _ {K V : Type 0} (eq : K → K → Bool) (equality : IsEquality eq) (m : Meaning K V) where
  -- if a key is decided it is not decided again
  not_twice : (R : List (Told K V)) (v w : ℕ) (k q : K) (d x : Decision) → decided eq R w q ≡ None → decided eq R v k ≡ Some d → cond (names_by eq w q v k) (Some x) (decided eq R v k) ≡ Some d
  not_twice R v w k q d x fresh h = by_name (names_by eq w q v k) refl
    where
      by_name : (b : Bool) → names_by eq w q v k ≡ b → cond b (Some x) (decided eq R v k) ≡ Some d
      by_name true e =
          let p = and_parts (eqb w v) (eq k q) e in
          let here : decided eq R v k ≡ None = subst (λ n. decided eq R n k ≡ None) (eqb-true w v p.0) (subst (λ j. decided eq R w j ≡ None) (sym (equality.same k q p.1)) fresh) in
          absurd (none-some d (sym here ∙ h))
      by_name false e = h

  -- with one more event, if a transaction was open at the version
  pub decided_more : (e : Told K V) (R : List (Told K V)) (v t : ℕ) (k : K) (d : Decision) → IsLawfulBack eq m (e ∷ R) → opened_at R v t ≡ true → decided eq R v k ≡ Some d → decided eq (e ∷ R) v k ≡ Some d
  decided_more (Open by w) R v t k d l o h = ap (λ b. cond b None (decided eq R v k)) (begins_none eq m R w v t l.1 o) ∙ h
  decided_more (Keep w q b) R v t k d l o h = not_twice R v w k q d ByValue l.0.1.0 h
  decided_more (End w q) R v t k d l o h = not_twice R v w k q d ByValue l.0.2 h
  decided_more (Cyclic w q) R v t k d l o h = not_twice R v w k q d ByCycle l.0.1 h
  decided_more (Commit by c) R v t k d l o h = h
  decided_more (Close by u) R v t k d l o h = h
  decided_more (Ask by u q) R v t k d l o h = h
  decided_more (Leave by a) R v t k d l o h = h
  decided_more (Start w q c) R v t k d l o h = h
  decided_more (Drop w q) R v t k d l o h = h
  decided_more (Lost w q) R v t k d l o h = h

  -- with more events, after which the transaction is open
  decided_on : (E R : List (Told K V)) (v t : ℕ) (k : K) (o : Opened) (d : Decision) → IsLawfulBack eq m (E ++ R) → t < length R → open_at (E ++ R) t ≡ Some o → o.version ≡ v → decided eq R v k ≡ Some d → decided eq (E ++ R) v k ≡ Some d
  decided_on [] R v t k o d l b p e h = h
  decided_on (x ∷ E) R v t k o d l b p e h =
      let before = open_before x (E ++ R) t o (omega (arith, length-append E R)) p in
      decided_more x (E ++ R) v t k d l (opened_so (E ++ R) v t o before e) (decided_on E R v t k o d l.1 b before e h)

  -- in a longer lawful journal, in which a transaction is open that was opened at the version
  pub decided_longer : (J I : List (Told K V)) (t n v : ℕ) (k : K) (o : Opened) (d : Decision) → StartsWith I J → IsLawfulJournal eq m I → StandsAt J t (Open n v) → open_at (reverse I) t ≡ Some o
      → decided eq (reverse J) v k ≡ Some d → decided eq (reverse I) v k ≡ Some d
  decided_longer J I t n v k o d p l s q h =
      let back : reverse I ≡ reverse p.0 ++ reverse J = ap reverse p.1 ∙ reverse-append J p.0 in
      let there : back_get (reverse I) t ≡ Some (Open n v) = from_front I t ∙ stands_longer J I t (Open n v) p s in
      let below : t < length (reverse J) = back_below (reverse J) t (Open n v) (from_front J t ∙ s) in
      subst (λ R. decided eq R v k ≡ Some d) (sym back)
      (decided_on (reverse p.0) (reverse J) v t k o d (subst (IsLawfulBack eq m) back l) below (subst (λ R. open_at R t ≡ Some o) back q) (same_opened (reverse I) t n v o there q).1 h)

  -- in what a seat has seen later, while it has a transaction open at the version
  pub decided_later : (s u : SeatView (Told K V)) (t v : ℕ) (k : K) (d : Decision) → Later eq m s u → HasOpen s t v → NotClosed t u.mine
      → decided eq (reverse s.seen) v k ≡ Some d → decided eq (reverse u.seen) v k ≡ Some d
  decided_later s u t v k d l h n e =
      let still = open_later s u t v (same_number eq m s u l) l.begins n h in
      decided_longer s.seen u.seen t s.number v k (record { by = u.number; version = v }) d l.begins l.lawful h.opening (open_in_seen eq m u t v l.lawful (sym l.mine) still) e

-- the same event at two places of a list
module _ {E : Type 0} where
  abbrev or_else : E → List E → E
  or_else d [] = d
  or_else d (x ∷ xs) = x

  abbrev rest_of : List E → List E
  rest_of [] = []
  rest_of (x ∷ xs) = xs

  -- they are one place, or one of the events stands before the other
  one_place : (us ws xs zs : List E) (x y : E) → us ++ (x ∷ ws) ≡ xs ++ (y ∷ zs) → (xs ≡ us) ⊎ (Has us y ⊎ Has xs x)
  one_place [] ws [] zs x y e = inl refl
  one_place (u ∷ us) ws [] zs x y e = inr (inl (inl (ap (or_else u) e)))
  one_place [] ws (v ∷ xs) zs x y e = inr (inr (inl (sym (ap (or_else x) e))))
  one_place (u ∷ us) ws (v ∷ xs) zs x y e = by_rest (one_place us ws xs zs x y (ap rest_of e))
    where
      by_rest : (xs ≡ us) ⊎ (Has us y ⊎ Has xs x) → (v ∷ xs ≡ u ∷ us) ⊎ (Has (u ∷ us) y ⊎ Has (v ∷ xs) x)
      by_rest (inl q) = inl (λ i. or_else v (sym e i) ∷ q i)
      by_rest (inr (inl q)) = inr (inl (inr q))
      by_rest (inr (inr q)) = inr (inr (inr q))

module _ {K V : Type 0} (eq : K → K → Bool) (m : Meaning K V) where
  -- a transaction was open when its Close came, and had no Close before it
  unclosed_before : (J before after : List (Told K V)) (n p t : ℕ) → IsLawfulJournal eq m J → J ≡ before ++ (Close n t ∷ after) → Has before (Close p t) → ⊥
  unclosed_before J before after n p t l e h =
      let whole : before ++ (Close n t ∷ after) ≡ (before ++ Close n t ∷ []) ++ after = sym (append_assoc before (Close n t ∷ []) after) in
      let upto : IsLawfulJournal eq m (before ++ Close n t ∷ []) = lawful_front eq m (before ++ Close n t ∷ []) after (subst (IsLawfulJournal eq m) (e ∙ whole) l) in
      let back : IsLawfulBack eq m (Close n t ∷ reverse before) = subst (IsLawfulBack eq m) (reverse-append before (Close n t ∷ [])) upto in
      open_unclosed eq m (reverse before) t back.0.0 back.1 back.0.1 p (reverse_has before (Close p t) h)

  -- so its Close has one place
  pub closed_once : (J before after front back : List (Told K V)) (n p t : ℕ) → IsLawfulJournal eq m J → J ≡ before ++ (Close n t ∷ after) → J ≡ front ++ (Close p t ∷ back) → front ≡ before
  closed_once J before after front back n p t l e f = by_place (one_place before after front back (Close n t) (Close p t) (sym e ∙ f))
    where
      by_place : (front ≡ before) ⊎ (Has before (Close p t) ⊎ Has front (Close n t)) → front ≡ before
      by_place (inl q) = q
      by_place (inr (inl h)) = absurd (unclosed_before J before after n p t l e h)
      by_place (inr (inr h)) = absurd (unclosed_before J front back p n t l f h)

module _ {K V : Type 0} (eq : K → K → Bool) (equality : IsEquality eq) (m : Meaning K V) where
  -- what was decided when a seat closed its transaction was decided where the Close stands
  pub decided_at_close : (s u : SeatView (Told K V)) (t v : ℕ) (k : K) (d : Decision) → HasOpen s t v → Turn eq m s u (λ found. Closes s.number t v) → decided eq (reverse s.seen) v k ≡ Some d
      → (I before after : List (Told K V)) (n : ℕ) → StartsWith I u.seen → IsLawfulJournal eq m I → I ≡ before ++ (Close n t ∷ after) → decided eq (reverse before) v k ≡ Some d
  decided_at_close s u t v k d h turn e I before after n p l q =
      let P : List (Told K V) → List (Told K V) → List (Told K V) → Type 0 = λ found. Closes s.number t v in
      let found = turn.found in
      let legal = found_lawful eq m s u P turn in
      let seen : u.seen ≡ found ++ (Close s.number t ∷ turn.adds.work) = turn.adds.journal ∙ ap (λ own. found ++ (own ++ turn.adds.work)) turn.adds.did.0 in
      let all : I ≡ found ++ (Close s.number t ∷ (turn.adds.work ++ p.0)) = p.1 ∙ (ap (λ l. l ++ p.0) seen ∙ append_assoc found (Close s.number t ∷ turn.adds.work) p.0) in
      let place : before ≡ found = closed_once eq m I found (turn.adds.work ++ p.0) before after s.number n t l all q in
      subst (λ J. decided eq (reverse J) v k ≡ Some d) (sym place)
      (decided_longer eq equality m s.seen found t s.number v k (record { by = s.number; version = v }) d turn.begins legal h.opening (has_open eq m s found turn.begins legal turn.found_mine t v h) e)
