-- While a transaction at a version is open, what was decided at that version stays decided.
use Rattle.std.proofs.Common.{◌≡◌, ◌<◌, inl, inr, append_assoc, ℕ, Bool, true, false, cond, eqb, [], ◌∷◌, ◌++◌, length, reverse, Option, Some, None, refl, sym, ap, ◌∙◌, subst, arith, eq-eqb, length-append}
use Rattle.std.proofs.lemmas.Bool.{ne_eqb}
use Rattle.std.proofs.lemmas.List.{reverse-append, length-reverse}
use Rattle.journal.specs.declared.event.Told.{Told}
use Rattle.journal.specs.declared.event.Told.TheVariants.{Open, Close, Keep, End, Cyclic}
use Rattle.journal.specs.Events.{Opened, Decision, ByValue, ByCycle, is_for, names_by, open_at, decided}
use Rattle.journal.specs.Law.{IsLawfulJournal, IsLawfulBack}
use Rattle.journal.proofs.Indices.{begins_none}
use Rattle.turnstile.specs.Events.{StartsWith}
use Rattle.dice_engine.proofs.Callers.{stands_longer}
use Rattle.dice_engine.proofs.Indices.{from_front, open_stands, closed_free}
use Rattle.action_digest.specs.declared.key.Key.{Key}
use Rattle.action_digest.specs.declared.value.Value.{Value}
use Rattle.action_digest.specs.Buck.{buck}
use Rattle.action_digest.specs.Same.{key_equal}
use Rattle.script_trace.specs.Events.{Events, IsDecidedIn}
use Rattle.dice_run.specs.Looking.{WasDecided}
use Rattle.dice_run.proofs.Seating.{stands_below}
use Rattle.lists.specs.Lists.{Has}
use Rattle.lists.proofs.Options.{none_some, some_same}

abbrev IsDecidedBack : Events → ℕ → Key → Type 0
IsDecidedBack R v k = (d : Decision) × (decided key_equal R v k ≡ Some d)

-- what is open after an event was open before it
open_tail : (x : Told Key Value) (R : Events) (t : ℕ) (o : Opened) → t < length R → open_at (x ∷ R) t ≡ Some o → open_at R t ≡ Some o
open_tail (Open by w) R t o h e = sym (ap (λ b. cond b (Some (record { by = by; version = w })) (open_at R t)) (ne_eqb (length R) t (λ s. omega arith))) ∙ e
open_tail (Close by u) R t o h e = by_index (eqb u t) e
  where
    by_index : (b : Bool) → cond b None (open_at R t) ≡ Some o → open_at R t ≡ Some o
    by_index true z = absurd (none_some z)
    by_index false z = z
open_tail _ R t o h e = e

named : (b : Bool) (d : Decision) (o : Option Decision) → (e : Decision) × (o ≡ Some e) → (e : Decision) × (cond b (Some d) o ≡ Some e)
named true d o h = (d, refl)
named false d o h = h

decided_one : (x : Told Key Value) (R : Events) (t v : ℕ) (k : Key) (o : Opened) → IsLawfulBack key_equal buck R → open_at R t ≡ Some o → o.version ≡ v → IsDecidedBack R v k → IsDecidedBack (x ∷ R) v k
decided_one (Open by w) R t v k o l e h d =
    (d.0, ap (λ b. cond b None (decided key_equal R v k)) (begins_none key_equal buck R w v t l (ap (is_for (λ (x : Opened). eqb x.version v)) e ∙ eq-eqb o.version v h)) ∙ d.1)
decided_one (Keep w q b) R t v k o l e h d = named (names_by key_equal w q v k) ByValue (decided key_equal R v k) d
decided_one (End w q) R t v k o l e h d = named (names_by key_equal w q v k) ByValue (decided key_equal R v k) d
decided_one (Cyclic w q) R t v k o l e h d = named (names_by key_equal w q v k) ByCycle (decided key_equal R v k) d
decided_one _ R t v k o l e h d = d

decided_back : (es S : Events) (t v : ℕ) (k : Key) (o : Opened) → IsLawfulBack key_equal buck (es ++ S) → t < length S → open_at (es ++ S) t ≡ Some o → o.version ≡ v → IsDecidedBack S v k → IsDecidedBack (es ++ S) v k
decided_back [] S t v k o l h e w d = d
decided_back (x ∷ es) S t v k o l h e w d =
    let b : t < length (es ++ S) = (let a = length-append es S in omega arith) in
    let f = open_tail x (es ++ S) t o b e in
    decided_one x (es ++ S) t v k o l.1 f w (decided_back es S t v k o l.1 h f w d)

-- a beginning without this event begins what stands before it
before_it : (earlier before later rest : Events) (e : Told Key Value) → before ++ e ∷ later ≡ earlier ++ rest → (Has earlier e → ⊥) → StartsWith before earlier
before_it [] before later rest e s n = (before, refl)
before_it (x ∷ xs) [] later rest e s n = absurd (n (inl (sym (first_same s))))
  where
    first_same : e ∷ later ≡ x ∷ (xs ++ rest) → e ≡ x
    first_same s = cc
before_it (x ∷ xs) (y ∷ ys) later rest e s n =
    let r = before_it xs ys later rest e (tails s) (λ h. n (inr h)) in
    (r.0, ap (λ (z : Told Key Value). z ∷ ys) (heads s) ∙ ap (λ (l : Events). x ∷ l) r.1)
  where
    heads : y ∷ (ys ++ e ∷ later) ≡ x ∷ (xs ++ rest) → y ≡ x
    heads s = cc

    tails : y ∷ (ys ++ e ∷ later) ≡ x ∷ (xs ++ rest) → ys ++ e ∷ later ≡ xs ++ rest
    tails s = cc

lawful_back : (R S : Events) → IsLawfulBack key_equal buck (R ++ S) → IsLawfulBack key_equal buck S
lawful_back [] S l = l
lawful_back (x ∷ R) S l = lawful_back R S l.1

-- the events before a close are lawful, and allow it
close_allowed : (J before later : Events) (t : ℕ) → J ≡ before ++ Close 0 t ∷ later → IsLawfulJournal key_equal buck J → IsLawfulBack key_equal buck (Close 0 t ∷ reverse before)
close_allowed J before later t e l = lawful_back (reverse later) (Close 0 t ∷ reverse before) (subst (IsLawfulBack key_equal buck) (ap reverse e ∙ back) l)
  where
    back : reverse (before ++ Close 0 t ∷ later) ≡ reverse later ++ Close 0 t ∷ reverse before
    back = ap reverse (sym (append_assoc before (Close 0 t ∷ []) later)) ∙ (reverse-append (before ++ Close 0 t ∷ []) later ∙ ap (λ (l : Events). reverse later ++ l) (reverse-append before (Close 0 t ∷ [])))

abbrev version_in : Told Key Value → ℕ
version_in (Open by v) = v
version_in _ = 0

-- what was decided while a transaction was open is decided when that is closed
pub decided_at_close : (J before later : Events) (t v : ℕ) (k : Key) → IsLawfulJournal key_equal buck J → J ≡ before ++ Close 0 t ∷ later → WasDecided J t v k → IsDecidedIn before v k
decided_at_close J before later t v k l e w =
    let starts : StartsWith before w.earlier = before_it w.earlier before later w.begins.0 (Close 0 t) (sym e ∙ w.begins.1) (closed_free t w.earlier w.open_ 0) in
    let a = close_allowed J before later t e l in
    let o = a.0.0 in
    let cut : reverse before ≡ reverse starts.0 ++ reverse w.earlier = ap reverse starts.1 ∙ reverse-append w.earlier starts.0 in
    let below : t < length (reverse w.earlier) = subst (λ n. t < n) (sym (length-reverse w.earlier)) (stands_below w.earlier t (Open 0 v) w.opening) in
    let there = stands_longer w.earlier before t (Open 0 v) starts w.opening in
    let same : o.version ≡ v = ap version_in (some_same (sym (open_stands (reverse before) t o a.0.1) ∙ (from_front before t ∙ there))) in
    subst (λ (R : Events). (d : Decision) × (decided key_equal R v k ≡ Some d)) (sym cut)
    (decided_back (reverse starts.0) (reverse w.earlier) t v k o (subst (IsLawfulBack key_equal buck) cut a.1) below (subst (λ (R : Events). open_at R t ≡ Some o) cut a.0.1) same w.decided)
