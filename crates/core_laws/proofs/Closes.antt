-- A Close takes the promises of its transaction away; other versions are as they were.
use Rattle.std.proofs.Common.{◌≡◌, ◌≢◌, ◌<◌, ◌-◌, ℕ, Bool, true, false, not, ◌&&◌, eqb, List, [], ◌∷◌, Option, Some, refl, sym, ap, ◌∙◌, arith, append-nil}
use Rattle.std.proofs.lemmas.Bool.{both_ways, ne_eqb, and_parts, and_from, not-true, not_from_false}
use Rattle.dice_key.specs.Lawful.{IsEquality, IsLawful}
use Rattle.dice_key.specs.Meaning.{Meaning}
use Rattle.task_share.specs.Asked.{By, Promised, Tasked, Asked}
use Rattle.journal.specs.declared.event.Told.{Told}
use Rattle.journal.specs.declared.event.Told.TheVariants.{Close}
use Rattle.journal.specs.Events.{Opened, Asking, is_for, one_if, commits_of, open_at, opened_at, open_count, live_at, ended_at}
use Rattle.core_laws.specs.Tasks.{Task}
use Rattle.core_laws.specs.Stands.{VersionStands, IsAtRest}
use Rattle.core_laws.specs.Changes.{SameLives}
use Rattle.core_laws.specs.Promises.{is_promise_in}
use Rattle.journal.proofs.Indices.{still_live}
use Rattle.core_laws.proofs.Opens.{open_there}
use Rattle.core_laws.proofs.Frames.{Carries, Promises, version_on, version_stays, rest_stays}
use Rattle.std.proofs.Math.Bool.{and-true}

module _ {K V : Type 0} (eq : K → K → Bool) (R : List (Told K V)) (by t : ℕ) where
  carries : (v : ℕ) → Carries eq R (Close by t ∷ R) v
  carries v = record {
    later = [];
    commits = sym (append-nil (commits_of R));
    longer = omega arith;
    counts = λ h. (let z : 0 < open_count R v - one_if (opened_at R v t) = h in omega arith);
    decides = λ q. refl;
    asks = λ q h. h;
    runs = λ q. refl;
    loses = λ q h. h;
    bases = λ b q h. h;
  }

  -- what was live in another transaction is live, and its transaction is open as before
  live_more : (j : ℕ) (b : Asking K) → live_at R j ≡ Some b → eqb t b.opened ≡ false → live_at (Close by t ∷ R) j ≡ Some b
  live_more j b e n = let z : is_for (λ a. eqb t a.opened) (live_at R j) ≡ false = ap (is_for (λ (a : Asking K). eqb t a.opened)) e ∙ n in rw z e

  open_more : (v : ℕ) (b : Asking K) → eqb t b.opened ≡ false → opened_at (Close by t ∷ R) v b.opened ≡ opened_at R v b.opened
  open_more v b n = rw n refl

module _ {K V : Type 0} (eq : K → K → Bool) (m : Meaning K V) (R : List (Told K V)) (v by t : ℕ) where
  -- a Close at another version
  module _ (o : Opened) (open_is : open_at R t ≡ Some o) (at : o.version ≢ v) (s : Asked K) (ts : K → Option (Task K V)) where
    closed_there : opened_at R v t ≡ false
    closed_there = ap (is_for (λ (x : Opened). eqb x.version v)) open_is ∙ ne_eqb o.version v at

    promises_stay : (W : List K) → VersionStands eq m R v W s ts → Promises m (Close by t ∷ R) v s
    promises_stay W h = record {
      promised = λ q j e. (let p = h.promised q j e in
          let n : eqb t p.0.opened ≡ false = ne_eqb t p.0.opened (λ x. both_ways (opened_at R v t) closed_there (ap (opened_at R v) x ∙ p.2)) in
          (p.0, live_more eq R by t j p.0 p.1 n, open_more eq R by t v p.0 n ∙ p.2, p.3));
      promises = λ j b e p n. (let l = still_live R t j b e in h.promises j b l.0 (sym (open_more eq R by t v b l.1) ∙ p) n);
    }

    counted : open_count R v - one_if (opened_at R v t) ≡ 0 → open_count R v ≡ 0
    counted z = let y = ap one_if closed_there in omega arith

module _ {K V : Type 0} (eq : K → K → Bool) (equality : IsEquality eq) (m : Meaning K V) (law : IsLawful m) (R : List (Told K V)) (v : ℕ) where
  -- a Close of any transaction, if its promises are gone
  pub closed : (W : List K) (s u : Asked K) (ts : K → Option (Task K V)) (by t : ℕ) → VersionStands eq m R v W s ts → ((q : K) (a : By K) → u.asks q a ≡ (s.asks q a && not (is_promise_in R t a))) → SameLives eq s u → VersionStands eq m (Close by t ∷ R) v W u ts
  closed W s u ts by t h leave lives = version_on eq m R (Close by t ∷ R) v (carries eq R by t v) W s u ts h lives
      (λ d j. leave d (Tasked j) ∙ and-true (s.asks d (Tasked j)))
      (record {
        promised = λ q j e. (let z = and_parts (s.asks q (Promised j)) _ (sym (leave q (Promised j)) ∙ e) in
            let p = h.promised q j z.0 in
            let n : eqb t p.0.opened ≡ false = ap (is_for (λ (a : Asking K). eqb t a.opened)) (sym p.1) ∙ not-true _ z.1 in
            (p.0, live_more eq R by t j p.0 p.1 n, open_more eq R by t v p.0 n ∙ p.2, p.3));
        promises = λ j b e p n. (let l = still_live R t j b e in
            let z : is_promise_in R t (Promised j) ≡ false = ap (is_for (λ (a : Asking K). eqb t a.opened)) l.0 ∙ l.1 in
            leave b.key (Promised j) ∙ and_from (s.asks b.key (Promised j)) _ (h.promises j b l.0 (sym (open_more eq R by t v b l.1) ∙ p) n) (not_from_false _ z));
      })

  -- a Close at another version
  pub closed_elsewhere : (W : List K) (s : Asked K) (ts : K → Option (Task K V)) (by t : ℕ) (o : Opened) → VersionStands eq m R v W s ts → open_at R t ≡ Some o → o.version ≢ v → VersionStands eq m (Close by t ∷ R) v W s ts
  closed_elsewhere W s ts by t o h open_is at = version_stays eq m R (Close by t ∷ R) v (carries eq R by t v) s ts (promises_stay eq m R v by t o open_is at s ts W h) W h

  pub closed_elsewhere_rests : (s : Asked K) (ts : K → Option (Task K V)) (by t : ℕ) (o : Opened) → IsAtRest eq m R v s ts → open_at R t ≡ Some o → o.version ≢ v → IsAtRest eq m (Close by t ∷ R) v s ts
  closed_elsewhere_rests s ts by t o h open_is at = rest_stays eq m R (Close by t ∷ R) v (carries eq R by t v) s ts (promises_stay eq m R v by t o open_is at s ts [] h.stands) (counted eq m R v by t o open_is at s ts) h

-- after a Close tasks of its version may be dropped
pub ended_on_close : {K V : Type 0} (R : List (Told K V)) (v by t : ℕ) → opened_at R v t ≡ true → ended_at (Close by t ∷ R) ≡ Some v
ended_on_close R v by t h = let o = open_there R v t h in rw o.1 (ap Some o.2)

-- who asks after a Close asked before it
pub closed_fewer : {K V : Type 0} (R : List (Told K V)) (t : ℕ) (s u : Asked K) → ((q : K) (a : By K) → u.asks q a ≡ (s.asks q a && not (is_promise_in R t a))) → (q : K) (a : By K) → u.asks q a ≡ true → s.asks q a ≡ true
closed_fewer R t s u leave q a e = (and_parts (s.asks q a) _ (sym (leave q a) ∙ e)).0
