-- A Leave takes its promise away; other versions are as they were.
use Rattle.std.proofs.Common.{◌≡◌, ℕ, Bool, true, false, cond, not, ◌&&◌, eqb, List, [], ◌∷◌, Option, Some, None, refl, sym, ap, ◌∙◌, arith, append-nil}
use Rattle.std.proofs.lemmas.Bool.{both_ways, eq-eqb, ne_eqb, and_parts, and_from, and_right, not-true, not_from_false}
use Rattle.std.proofs.lemmas.Option.{same_Some, none-some}
use Rattle.dice_key.specs.Lawful.{IsEquality, IsLawful}
use Rattle.dice_key.specs.Meaning.{Meaning}
use Rattle.task_share.specs.Asked.{Promised, Tasked, Asked}
use Rattle.journal.specs.declared.event.Told.{Told}
use Rattle.journal.specs.declared.event.Told.TheVariants.{Leave}
use Rattle.journal.specs.Events.{Asking, commits_of, opened_at, live_at, ended_at}
use Rattle.core_laws.specs.Tasks.{Task}
use Rattle.core_laws.specs.Stands.{VersionStands, IsAtRest}
use Rattle.core_laws.specs.Changes.{SameLives, Leaves}
use Rattle.core_laws.proofs.Opens.{open_there}
use Rattle.core_laws.proofs.Frames.{Carries, Promises, version_on, version_stays, rest_stays}

and_not_none : (b c : Bool) → c ≡ false → (b && not c) ≡ b
and_not_none true c e = ap not e
and_not_none false c e = refl

module _ {K V : Type 0} (eq : K → K → Bool) (R : List (Told K V)) (by i : ℕ) where
  carries : (v : ℕ) → Carries eq R (Leave by i ∷ R) v
  carries v = record { later = []; commits = sym (append-nil (commits_of R)); longer = omega arith; counts = λ h. h; decides = λ q. refl; asks = λ q h. h; runs = λ q. refl; loses = λ q h. h; bases = λ b q h. h }

  -- what is live was live, and is another ask
  live_others : (j : ℕ) (b : Asking K) → live_at (Leave by i ∷ R) j ≡ Some b → (live_at R j ≡ Some b) × (eqb i j ≡ false)
  live_others j b e = by_index (eqb i j) refl e
    where
      by_index : (c : Bool) → eqb i j ≡ c → cond c None (live_at R j) ≡ Some b → (live_at R j ≡ Some b) × (eqb i j ≡ false)
      by_index true p q = absurd (none-some b q)
      by_index false p q = (q, p)

  module _ (a : Asking K) (live_is : live_at R i ≡ Some a) where
    -- what was live and is another ask is live
    live_more : (j : ℕ) (b : Asking K) → live_at R j ≡ Some b → ((i ≡ j) → a ≡ b → ⊥) → live_at (Leave by i ∷ R) j ≡ Some b
    live_more j b e n = let z : eqb i j ≡ false = ne_eqb i j (λ h. n h (same_Some a b (sym live_is ∙ (ap (live_at R) h ∙ e)))) in rw z e

module _ {K V : Type 0} (eq : K → K → Bool) (equality : IsEquality eq) (m : Meaning K V) (R : List (Told K V)) (v by i : ℕ) (a : Asking K) (live_is : live_at R i ≡ Some a) where
  -- a Leave at another version
  module _ (at : opened_at R v a.opened ≡ false) (s : Asked K) (ts : K → Option (Task K V)) where
    promises_stay : (W : List K) → VersionStands eq m R v W s ts → Promises m (Leave by i ∷ R) v s
    promises_stay W h = record {
      promised = λ q j e. (let p = h.promised q j e in (p.0, live_more eq R by i a live_is j p.0 p.1 (λ x y. both_ways (opened_at R v a.opened) at (ap (λ (b : Asking K). opened_at R v b.opened) y ∙ p.2)), p.2, p.3));
      promises = λ j b e p n. h.promises j b (live_others eq R by i j b e).0 p n;
    }

module _ {K V : Type 0} (eq : K → K → Bool) (equality : IsEquality eq) (m : Meaning K V) (law : IsLawful m) (R : List (Told K V)) (v : ℕ) where
  -- a Leave at v itself
  pub left : (W : List K) (s u : Asked K) (ts : K → Option (Task K V)) (by i : ℕ) (a : Asking K) → VersionStands eq m R v W s ts → live_at R i ≡ Some a → Leaves eq a.key (Promised i) s u → SameLives eq s u → VersionStands eq m (Leave by i ∷ R) v W u ts
  left W s u ts by i a h live_is leave lives = version_on eq m R (Leave by i ∷ R) v (carries eq R by i v) W s u ts h lives
      (λ d j. leave d (Tasked j) ∙ and_not_none (s.asks d (Tasked j)) _ (and_right (eq a.key d) false refl))
      (record {
        promised = λ q j e. (let z = and_parts (s.asks q (Promised j)) _ (sym (leave q (Promised j)) ∙ e) in
            let p = h.promised q j z.0 in
            (p.0, live_more eq R by i a live_is j p.0 p.1 (λ x y. both_ways (eq a.key q && eqb i j) (not-true _ z.1) (and_from (eq a.key q) (eqb i j) (ap (λ (b : Asking K). eq b.key q) y ∙ (ap (λ k. eq k q) p.3 ∙ equality.itself q)) (eq-eqb i j x))), p.2, p.3));
        promises = λ j b e p n. (let l = live_others eq R by i j b e in leave b.key (Promised j) ∙ and_from (s.asks b.key (Promised j)) _ (h.promises j b l.0 p n) (not_from_false _ (and_right (eq a.key b.key) (eqb i j) l.1)));
      })

  -- a Leave at another version
  pub left_elsewhere : (W : List K) (s : Asked K) (ts : K → Option (Task K V)) (by i : ℕ) (a : Asking K) → VersionStands eq m R v W s ts → live_at R i ≡ Some a → opened_at R v a.opened ≡ false → VersionStands eq m (Leave by i ∷ R) v W s ts
  left_elsewhere W s ts by i a h live_is at = version_stays eq m R (Leave by i ∷ R) v (carries eq R by i v) s ts (promises_stay eq equality m R v by i a live_is at s ts W h) W h

  pub left_elsewhere_rests : (s : Asked K) (ts : K → Option (Task K V)) (by i : ℕ) (a : Asking K) → IsAtRest eq m R v s ts → live_at R i ≡ Some a → opened_at R v a.opened ≡ false → IsAtRest eq m (Leave by i ∷ R) v s ts
  left_elsewhere_rests s ts by i a h live_is at = rest_stays eq m R (Leave by i ∷ R) v (carries eq R by i v) s ts (promises_stay eq equality m R v by i a live_is at s ts [] h.stands) (λ z. z) h

-- after a Leave tasks of its version may be dropped
pub ended_on_leave : {K V : Type 0} (R : List (Told K V)) (v by i : ℕ) (a : Asking K) → live_at R i ≡ Some a → opened_at R v a.opened ≡ true → ended_at (Leave by i ∷ R) ≡ Some v
ended_on_leave R v by i a e h = let o = open_there R v a.opened h in rw (e, o.1) (ap Some o.2)
