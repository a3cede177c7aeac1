-- The words on journals say what they say in other words.
use Rattle.std.proofs.Common.{◌≡◌, ◌⊎◌, ◌<◌, ◌+◌, ℕ, suc, Bool, true, false, cond, not, ◌&&◌, ◌||◌, eqb, List, [], ◌∷◌, ◌++◌, length, Option, Some, None, inl, inr, refl, sym, ap, ◌∙◌, subst, arith}
use Rattle.std.proofs.lemmas.Bool.{both_ways, eqb-true, eq-eqb, ne_eqb, and_from, and_parts, or_left, or_right, or_cases, not-true}
use Rattle.std.proofs.lemmas.Option.{same_Some, none-some}
use Rattle.dice_key.specs.Lawful.{IsEquality}
use Rattle.dice_key.specs.Meaning.{Meaning}
use Rattle.journal.specs.declared.event.Told.{Told}
use Rattle.journal.specs.declared.event.Told.TheVariants.{Commit, Open, Close, Ask, Leave, Start, Keep, End, Cyclic, Drop, Lost}
use Rattle.journal.specs.declared.event.Reason.{Reason}
use Rattle.journal.specs.Events.{Opened, Asking, Decision, ByValue, ByCycle, NotClosed, NotLeft, IsOpenByWords, is_for, names_by, begins, open_at, opened_at, live_at, decided, asked_in_epoch, lost_in_epoch, is_running, is_base}
use Rattle.journal.specs.Law.{IsLawfulBack}
use Rattle.journal.specs.Words.{IsLiveByWords, event_at, begins_epoch, epoch_of, IsAskedAmong, HasKeptOrEnded, IsDecidedAmong, RunsByWords}
use Rattle.journal.proofs.Indices.{opened_below, live_below, still_live, open_before, base_more}
use Rattle.lists.specs.Lists.{Has}

module _ {K V : Type 0} where
  open_found : (later before : List (Told K V)) (i by v : ℕ) → length before ≡ i → NotClosed i later → open_at (later ++ Open by v ∷ before) i ≡ Some (record { by = by; version = v })
  open_found [] before i by v e n = rw (eq-eqb (length before) i e) refl
  open_found (Open c w ∷ later) before i by v e n = open_before (later ++ Open by v ∷ before) c w i (record { by = by; version = v }) (open_found later before i by v e n)
  open_found (Close c t ∷ later) before i by v e n = rw (ne_eqb t i n.0) (open_found later before i by v e n.1)
  open_found (Commit c d ∷ later) before i by v e n = open_found later before i by v e n
  open_found (Ask c t q ∷ later) before i by v e n = open_found later before i by v e n
  open_found (Leave c a ∷ later) before i by v e n = open_found later before i by v e n
  open_found (Start w q c ∷ later) before i by v e n = open_found later before i by v e n
  open_found (Keep w q b ∷ later) before i by v e n = open_found later before i by v e n
  open_found (End w q ∷ later) before i by v e n = open_found later before i by v e n
  open_found (Cyclic w q ∷ later) before i by v e n = open_found later before i by v e n
  open_found (Drop w q ∷ later) before i by v e n = open_found later before i by v e n
  open_found (Lost w q ∷ later) before i by v e n = open_found later before i by v e n

  -- a transaction that was opened and not closed later is found open
  pub open_by_words : (R : List (Told K V)) (i : ℕ) (o : Opened) → IsOpenByWords R i o → open_at R i ≡ Some o
  open_by_words R i o w = subst (λ S. open_at S i ≡ Some o) (sym w.all) (open_found w.later w.before i o.by o.version w.index w.not_closed)

  one_later : (e : Told K V) (R : List (Told K V)) (i : ℕ) (a : Asking K) → (w : IsLiveByWords R i a) → NotLeft i (e ∷ w.later) → NotClosed a.opened (e ∷ w.later) → IsLiveByWords (e ∷ R) i a
  one_later e R i a w n m = record { later = e ∷ w.later; before = w.before; all = ap (λ x. e ∷ x) w.all; index = w.index; not_left = n; not_closed = m }

  -- an ask that is found live was not left later, and its transaction not closed
  pub live_says : (R : List (Told K V)) (i : ℕ) (a : Asking K) → live_at R i ≡ Some a → IsLiveByWords R i a
  live_says [] i a e = absurd (none-some a e)
  live_says (Ask by t k ∷ R) i a e = by_index (eqb (length R) i) refl e (λ h. live_says R i a h)
    where
      by_index : (b : Bool) → eqb (length R) i ≡ b → cond b (Some (record { by = by; opened = t; key = k })) (live_at R i) ≡ Some a → (live_at R i ≡ Some a → IsLiveByWords R i a) → IsLiveByWords (Ask by t k ∷ R) i a
      by_index true p q again = record { later = []; before = R; all = ap (λ (a : Asking K). Ask a.by a.opened a.key ∷ R) (same_Some _ _ q); index = eqb-true (length R) i p; not_left = tt; not_closed = tt }
      by_index false p q again = let w = again q in one_later (Ask by t k) R i a w w.not_left w.not_closed
  live_says (Leave by l ∷ R) i a e = by_index (eqb l i) refl e (λ h. live_says R i a h)
    where
      by_index : (b : Bool) → eqb l i ≡ b → cond b None (live_at R i) ≡ Some a → (live_at R i ≡ Some a → IsLiveByWords R i a) → IsLiveByWords (Leave by l ∷ R) i a
      by_index true p q again = absurd (none-some a q)
      by_index false p q again = let w = again q in one_later (Leave by l) R i a w ((λ h. let z : eqb l i ≡ true = eq-eqb l i h in let y : true ≡ false = sym z ∙ p in cc), w.not_left) w.not_closed
  live_says (Close by t ∷ R) i a e =
      let k = still_live R t i a e in
      let w = live_says R i a k.0 in
      one_later (Close by t) R i a w w.not_left ((λ h. let z : eqb t a.opened ≡ true = eq-eqb t a.opened h in let y : true ≡ false = sym z ∙ k.1 in cc), w.not_closed)
  live_says (Commit by c ∷ R) i a e = let w = live_says R i a e in one_later (Commit by c) R i a w w.not_left w.not_closed
  live_says (Open by v ∷ R) i a e = let w = live_says R i a e in one_later (Open by v) R i a w w.not_left w.not_closed
  live_says (Start v k c ∷ R) i a e = let w = live_says R i a e in one_later (Start v k c) R i a w w.not_left w.not_closed
  live_says (Keep v k b ∷ R) i a e = let w = live_says R i a e in one_later (Keep v k b) R i a w w.not_left w.not_closed
  live_says (End v k ∷ R) i a e = let w = live_says R i a e in one_later (End v k) R i a w w.not_left w.not_closed
  live_says (Cyclic v k ∷ R) i a e = let w = live_says R i a e in one_later (Cyclic v k) R i a w w.not_left w.not_closed
  live_says (Drop v k ∷ R) i a e = let w = live_says R i a e in one_later (Drop v k) R i a w w.not_left w.not_closed
  live_says (Lost v k ∷ R) i a e = let w = live_says R i a e in one_later (Lost v k) R i a w w.not_left w.not_closed

  live_found : (later before : List (Told K V)) (i by t : ℕ) (k : K) → length before ≡ i → NotLeft i later → NotClosed t later → live_at (later ++ Ask by t k ∷ before) i ≡ Some (record { by = by; opened = t; key = k })
  live_found [] before i by t k e n m = rw (eq-eqb (length before) i e) refl
  live_found (Ask c s q ∷ later) before i by t k e n m =
      let S = later ++ Ask by t k ∷ before in
      let again = live_found later before i by t k e n m in
      let z : eqb (length S) i ≡ false = ne_eqb (length S) i (λ h. (let l = live_below S i (record { by = by; opened = t; key = k }) again in omega arith)) in
      rw z again
  live_found (Leave c l ∷ later) before i by t k e n m = rw (ne_eqb l i n.0) (live_found later before i by t k e n.1 m)
  live_found (Close c s ∷ later) before i by t k e n m =
      let again = live_found later before i by t k e n m.1 in
      let z : eqb s t ≡ false = ne_eqb s t m.0 in
      subst (λ (o : Option (Asking K)). cond (is_for (λ (a : Asking K). eqb s a.opened) o) None o ≡ Some (record { by = by; opened = t; key = k })) (sym again) (rw z refl)
  live_found (Commit c d ∷ later) before i by t k e n m = live_found later before i by t k e n m
  live_found (Open c w ∷ later) before i by t k e n m = live_found later before i by t k e n m
  live_found (Start w q c ∷ later) before i by t k e n m = live_found later before i by t k e n m
  live_found (Keep w q b ∷ later) before i by t k e n m = live_found later before i by t k e n m
  live_found (End w q ∷ later) before i by t k e n m = live_found later before i by t k e n m
  live_found (Cyclic w q ∷ later) before i by t k e n m = live_found later before i by t k e n m
  live_found (Drop w q ∷ later) before i by t k e n m = live_found later before i by t k e n m
  live_found (Lost w q ∷ later) before i by t k e n m = live_found later before i by t k e n m

  -- an ask that was not left later, and whose transaction was not closed, is found live
  pub live_by_words : (R : List (Told K V)) (i : ℕ) (a : Asking K) → IsLiveByWords R i a → live_at R i ≡ Some a
  live_by_words R i a w = subst (λ S. live_at S i ≡ Some a) (sym w.all) (live_found w.later w.before i a.by a.opened a.key w.index w.not_left w.not_closed)
