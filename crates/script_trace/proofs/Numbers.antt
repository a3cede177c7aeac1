-- The numbers of a lawful journal are at most as many as its events.
use Rattle.std.proofs.Common.{◌≡◌, ◌<◌, ◌≤◌, ◌^◌, inl, inr, ℕ, suc, Bool, true, false, cond, ◌&&◌, eqb, List, [], ◌∷◌, length, reverse, Option, Some, None, refl, sym, ap, subst, arith, length-append}
use Rattle.std.specs.List.{AllByRecursion}
use Rattle.std.proofs.lemmas.Bool.{eqb-true, and_parts, or_cases}
use Rattle.std.proofs.lemmas.Option.{same_Some, none-some}
use Rattle.std.proofs.lemmas.List.{reverse-reverse, length-reverse}
use Rattle.journal.specs.declared.event.Told.{Told}
use Rattle.journal.specs.declared.event.Told.TheVariants.{Commit, Open, Close, Ask, Leave, Start, Keep, End, Cyclic, Drop, Lost}
use Rattle.journal.specs.declared.event.Reason.{Reason}
use Rattle.journal.specs.declared.event.Reason.TheVariants.{New, Transient, Differs}
use Rattle.journal.specs.Events.{Opened, is_for, names_by, begins, commits_of, open_at, opened_at, asked_in_epoch, is_base}
use Rattle.journal.specs.Law.{IsAllowed, IsLawfulBack, IsLawfulJournal, IsWanted, IsTrueCause}
use Rattle.journal.specs.Tell.{event_by}
use Rattle.journal.proofs.Indices.{opened_below, live_below}
use Rattle.turnstile.specs.Events.{IsBelow, AllBelow}
use Rattle.action_digest.specs.declared.key.Key.{Key}
use Rattle.action_digest.specs.declared.value.Value.{Value}
use Rattle.action_digest.specs.Buck.{buck}
use Rattle.action_digest.specs.Same.{key_equal}
use Rattle.lists.proofs.Each.{all_end}
use Rattle.lists.proofs.Members.{reverse_more}
use Rattle.script_trace.specs.Events.{Events}
use Rattle.script_trace.proofs.Reading.{numbers, reason_numbers, AreSmall}

-- these numbers are at most n
abbrev AreWithin : ℕ → List ℕ → Type 0
AreWithin n ns = AllByRecursion (λ m. m ≤ n) ns

one_more : (m n : ℕ) → m ≤ n → m ≤ suc n
one_more m n l = omega arith

commits_below : (R : Events) → length (commits_of R) ≤ length R
commits_below [] = omega arith
commits_below (Commit by c ∷ R) = omega (arith, length-append (commits_of R) (c ∷ []), commits_below R)
commits_below (_ ∷ R) = one_more _ _ (commits_below R)

version_below : (R : Events) (i : ℕ) (o : Opened) → IsLawfulBack key_equal buck R → open_at R i ≡ Some o → o.version ≤ length R
version_below [] i o l e = absurd (none-some o e)
version_below (Open by v ∷ R) i o l e = by_index (eqb (length R) i) e (λ h. version_below R i o l.1 h)
  where
    by_index : (b : Bool) → cond b (Some (record { by = by; version = v })) (open_at R i) ≡ Some o → (open_at R i ≡ Some o → o.version ≤ length R) → o.version ≤ suc (length R)
    by_index true q again =
        let s : v ≡ o.version = ap (λ (x : Opened). x.version) (same_Some _ _ q) in
        let a : v ≡ length (commits_of R) = l.0 in
        omega (arith, commits_below R)
    by_index false q again = one_more _ _ (again q)
version_below (Close by t ∷ R) i o l e = by_index (eqb t i) e (λ h. version_below R i o l.1 h)
  where
    by_index : (b : Bool) → cond b None (open_at R i) ≡ Some o → (open_at R i ≡ Some o → o.version ≤ length R) → o.version ≤ suc (length R)
    by_index true q again = absurd (none-some o q)
    by_index false q again = one_more _ _ (again q)
version_below (_ ∷ R) i o l e = one_more _ _ (version_below R i o l.1 e)

-- a version with an open transaction
open_below : (R : Events) (v i : ℕ) → IsLawfulBack key_equal buck R → opened_at R v i ≡ true → v ≤ length R
open_below R v i l h = by_open (open_at R i) refl h
  where
    by_open : (o : Option Opened) → open_at R i ≡ o → is_for (λ (x : Opened). eqb x.version v) o ≡ true → v ≤ length R
    by_open None e q = cc
    by_open (Some o) e q = let s : o.version ≡ v = eqb-true o.version v q in subst (λ n. n ≤ length R) s (version_below R i o l e)

wanted_below : (R : Events) (v : ℕ) (k : Key) → IsLawfulBack key_equal buck R → IsWanted key_equal buck R v k → v ≤ length R
wanted_below R v k l w = open_below R v w.asking.opened l w.at

asked_below : (R : Events) (v : ℕ) (k : Key) → IsLawfulBack key_equal buck R → asked_in_epoch key_equal R v k ≡ true → v ≤ length R
asked_below [] v k l e = cc
asked_below (Open by w ∷ R) v k l e = by_epoch (begins R w v) e (λ h. asked_below R v k l.1 h)
  where
    by_epoch : (b : Bool) → cond b false (asked_in_epoch key_equal R v k) ≡ true → (asked_in_epoch key_equal R v k ≡ true → v ≤ length R) → v ≤ suc (length R)
    by_epoch true q again = cc
    by_epoch false q again = one_more _ _ (again q)
asked_below (Ask by t q ∷ R) v k l e = elim (or_cases (opened_at R v t && key_equal k q) (asked_in_epoch key_equal R v k) e) as (λ _. v ≤ suc (length R)) [
  | inl h ↦ one_more _ _ (open_below R v t l.1 (and_parts (opened_at R v t) (key_equal k q) h).0)
  | inr h ↦ one_more _ _ (asked_below R v k l.1 h)
]
asked_below (_ ∷ R) v k l e = one_more _ _ (asked_below R v k l.1 e)

named : (w v n : ℕ) (q k : Key) → names_by key_equal w q v k ≡ true → w ≤ n → v ≤ n
named w v n q k h l = subst (λ x. x ≤ n) (eqb-true w v (and_parts (eqb w v) (key_equal k q) h).0) l

base_below : (R : Events) (b : ℕ) (k : Key) → IsLawfulBack key_equal buck R → is_base key_equal R b k ≡ true → b ≤ length R
base_below [] b k l e = cc
base_below (Keep w q c ∷ R) b k l e = elim (or_cases (names_by key_equal w q b k) (is_base key_equal R b k) e) as (λ _. b ≤ suc (length R)) [
  | inl h ↦ one_more _ _ (named w b (length R) q k h (wanted_below R w q l.1 l.0.0))
  | inr h ↦ one_more _ _ (base_below R b k l.1 h)
]
base_below (End w q ∷ R) b k l e = elim (or_cases (names_by key_equal w q b k) (is_base key_equal R b k) e) as (λ _. b ≤ suc (length R)) [
  | inl h ↦ one_more _ _ (named w b (length R) q k h (wanted_below R w q l.1 l.0.0))
  | inr h ↦ one_more _ _ (base_below R b k l.1 h)
]
base_below (_ ∷ R) b k l e = one_more _ _ (base_below R b k l.1 e)

-- ---- each event

first_number : (by n : ℕ) → by < 1 → by ≤ n
first_number by n l = omega arith

before_end : (i n : ℕ) → i < n → i ≤ n
before_end i n l = omega arith

cause_within : (R : Events) (v : ℕ) (k : Key) (c : Reason Key) → IsLawfulBack key_equal buck R → IsTrueCause key_equal buck R v k c → AreWithin (length R) (reason_numbers c)
cause_within R v k New l t = tt
cause_within R v k (Transient b) l t = (base_below R b k l t.0, tt)
cause_within R v k (Differs b d) l t = (base_below R b k l t.0, tt)

numbers_within : (R : Events) (e : Told Key Value) → IsLawfulBack key_equal buck R → IsAllowed key_equal buck R e → IsBelow 1 (event_by e) → AreWithin (length R) (numbers e)
numbers_within R (Commit by c) l a b = (first_number by _ b, tt)
numbers_within R (Open by v) l a b = (first_number by _ b, (subst (λ n. n ≤ length R) (sym a) (commits_below R), tt))
numbers_within R (Close by t) l a b = (first_number by _ b, (before_end t _ (opened_below R t a.0 a.1), tt))
numbers_within R (Ask by t k) l a b = (first_number by _ b, (before_end t _ (opened_below R t a.0 a.1), tt))
numbers_within R (Leave by i) l a b = (first_number by _ b, (before_end i _ (live_below R i a.0 a.1), tt))
numbers_within R (Start v k c) l a b = (wanted_below R v k l a.0, cause_within R v k c l a.2)
numbers_within R (Keep v k w) l a b = (wanted_below R v k l a.0, (base_below R w k l a.2.base, tt))
numbers_within R (End v k) l a b = (wanted_below R v k l a.0, tt)
numbers_within R (Cyclic v k) l a b = (wanted_below R v k l a.0, tt)
numbers_within R (Drop v k) l a b = (asked_below R v a.0.once l a.0.asked, tt)
numbers_within R (Lost v k) l a b = (wanted_below R v k l a.0, tt)

small_from : (n : ℕ) (ns : List ℕ) → n < 2 ^ 64 → AreWithin n ns → AreSmall ns
small_from n [] s a = tt
small_from n (m ∷ ns) s a = (omega (arith, a.0, s), small_from n ns s a.1)

all_small : (R : Events) → IsLawfulBack key_equal buck R → AllByRecursion (λ e. IsBelow 1 (event_by e)) R → length R < 2 ^ 64 → AllByRecursion (λ e. AreSmall (numbers e)) R
all_small [] l b s = tt
all_small (e ∷ R) l b s = let fewer : length R < 2 ^ 64 = omega arith in (small_from (length R) (numbers e) fewer (numbers_within R e l.1 l.0 b.0), all_small R l.1 b.1 fewer)

-- ---- and in a journal's order

pub back : (P : Told Key Value → Type 0) (J : Events) → AllByRecursion P J → AllByRecursion P (reverse J)
back P [] a = tt
back P (e ∷ J) a = subst (AllByRecursion P) (sym (reverse_more e J)) (all_end P (reverse J) e (back P J a.1) a.0)

each_below : (J : Events) → AllBelow event_by 1 J → AllByRecursion (λ e. IsBelow 1 (event_by e)) J
each_below [] b = tt
each_below (e ∷ J) b = (b.0, each_below J b.1)

pub numbers_small : (J : Events) → IsLawfulJournal key_equal buck J → AllBelow event_by 1 J → length J < 2 ^ 64 → AllByRecursion (λ e. AreSmall (numbers e)) J
numbers_small J l b s =
    subst (AllByRecursion (λ e. AreSmall (numbers e))) (reverse-reverse J)
    (back (λ e. AreSmall (numbers e)) (reverse J) (all_small (reverse J) l (back (λ e. IsBelow 1 (event_by e)) J (each_below J b)) (subst (λ n. n < 2 ^ 64) (sym (length-reverse J)) s)))
