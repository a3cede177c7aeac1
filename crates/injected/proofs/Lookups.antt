-- The number of a value that is looked up, against the number of a set.
use Rattle.std.proofs.Common.{◌≡◌, ◌<◌, ◌+◌, ℕ, zero, suc, Bool, true, false, cond, List, [], ◌∷◌, Option, Some, None, eqb-true, refl, ap, sym, ◌∙◌, subst, inl, inr, arith}
use Rattle.std.specs.Prelude.{slice_get, nat_eq}
use Rattle.std.specs.Arc.{arc_value}
use Rattle.std.specs.declared.sync.Arc.{Arc}
use Rattle.std.specs.Option.{option_eq}
use Rattle.std.specs.List.{IsDistinct, AllByRecursion, position, position_from}
use Rattle.std.proofs.lemmas.Bool.{cases_Bool}
use Rattle.std.proofs.lemmas.Bool.Decides.{nat_tests}
use Rattle.std.proofs.lemmas.Iterator.Adapters.{position_from-zero}
use Rattle.std.proofs.lemmas.Map.Keys.{IsDistinct-head, IsDistinct-tail}
use Rattle.dice_key.specs.Lawful.{IsEquality}
use Rattle.injected.specs.Numbers.{equal_at}

each_at : {X : Type 0} (P : X → Type 0) (xs : List X) (n : ℕ) (x : X) → AllByRecursion P xs → slice_get xs n ≡ Some x → P x
each_at P [] n x h e = cc
each_at P (y ∷ ys) zero x h e = let same : y ≡ x = cc in subst P same h.0
each_at P (y ∷ ys) (suc n) x h e = each_at P ys n x h.1 e

pub as_number : (m n : ℕ) → m ≡ n → nat_eq m n ≡ true
as_number m n e = grind (arith, nat_tests)

other_number : (m n : ℕ) → (m ≡ n → ⊥) → nat_eq m n ≡ false
other_number m n h = grind (arith, nat_tests)

-- a number that comes later in the list
later : {X : Type 0} (p : X → Bool) (xs : List X) (i n : ℕ) → n < i → option_eq nat_eq (position_from p i xs) (Some n) ≡ false
later p [] i n l = refl
later p (x ∷ xs) i n l = elim (cases_Bool (p x)) as (λ _. option_eq nat_eq (position_from p i (x ∷ xs)) (Some n) ≡ false) [
  | inl e ↦ ap (λ b. option_eq nat_eq (cond b (Some i) (position_from p (i + 1) xs)) (Some n)) e ∙ other_number i n (λ h. omega arith)
  | inr e ↦ ap (λ b. option_eq nat_eq (cond b (Some i) (position_from p (i + 1) xs)) (Some n)) e ∙ later p xs (i + 1) n (omega arith)
]

module _ {X : Type 0} (same : X → X → Bool) (p : X → Bool) (linked : (x y : X) → p x ≡ true → p y ≡ true → same x y ≡ true) where
  fails_behind : (x y : X) → p x ≡ true → same x y ≡ false → p y ≡ false
  fails_behind x y h e = elim (cases_Bool (p y)) as (λ _. p y ≡ false) [
    | inl q ↦ let t = linked x y h q in cc
    | inr q ↦ q
  ]

  found_from : (xs : List X) (i n : ℕ) (x : X) → IsDistinct same xs → slice_get xs n ≡ Some x → option_eq nat_eq (position_from p i xs) (Some (i + n)) ≡ p x
  found_from [] i n x d e = cc
  found_from (y ∷ ys) i zero x d e = let s : y ≡ x = cc in elim (cases_Bool (p y)) as (λ _. option_eq nat_eq (position_from p i (y ∷ ys)) (Some (i + 0)) ≡ p x) [
    | inl h ↦ ap (λ b. option_eq nat_eq (cond b (Some i) (position_from p (i + 1) ys)) (Some (i + 0))) h ∙ (as_number i (i + 0) (omega arith) ∙ (sym h ∙ ap p s))
    | inr h ↦ ap (λ b. option_eq nat_eq (cond b (Some i) (position_from p (i + 1) ys)) (Some (i + 0))) h ∙ (later p ys (i + 1) (i + 0) (omega arith) ∙ (sym h ∙ ap p s))
  ]
  found_from (y ∷ ys) i (suc n) x d e = elim (cases_Bool (p y)) as (λ _. option_eq nat_eq (position_from p i (y ∷ ys)) (Some (i + suc n)) ≡ p x) [
    | inl h ↦ ap (λ b. option_eq nat_eq (cond b (Some i) (position_from p (i + 1) ys)) (Some (i + suc n))) h ∙ (other_number i (i + suc n) (λ h. omega arith) ∙ sym (fails_behind y x h (each_at (λ z. same y z ≡ false) ys n x (IsDistinct-head same y ys d) e)))
    | inr h ↦ ap (λ b. option_eq nat_eq (cond b (Some i) (position_from p (i + 1) ys)) (Some (i + suc n))) h ∙ subst (λ m. option_eq nat_eq (position_from p (i + 1) ys) (Some m) ≡ p x) (add_step i n) (found_from ys (i + 1) n x (IsDistinct-tail same y ys d) e)
  ]
    where
      add_step : (i n : ℕ) → (i + 1) + n ≡ i + suc n
      add_step i n = omega arith

  -- the number that passes the test is that of the only value that does
  pub found_number : (xs : List X) (n : ℕ) (x : X) → IsDistinct same xs → slice_get xs n ≡ Some x → option_eq nat_eq (position p xs) (Some n) ≡ p x
  found_number xs n x d e = ap (λ o. option_eq nat_eq o (Some n)) (position_from-zero p xs) ∙ subst (λ m. option_eq nat_eq (position_from p 0 xs) (Some m) ≡ p x) zero_more (found_from xs 0 n x d e)
    where
      zero_more : 0 + n ≡ n
      zero_more = omega arith

-- a look-up among distinct values against the values that numbers name
module _ {V B : Type 0} (eq : V → V → Bool) (laws : IsEquality eq) (w : V) (xs : List (Arc V B)) where
  flips : (a b : V) → eq a b ≡ eq b a
  flips a b = elim (cases_Bool (eq a b)) as (λ _. eq a b ≡ eq b a) [
    | inl e ↦ let s : a ≡ b = laws.same a b e in ap (λ c. eq c b) s ∙ ap (eq b) (sym s)
    | inr e ↦ elim (cases_Bool (eq b a)) as (λ _. eq a b ≡ eq b a) [
      | inl f ↦ let s : b ≡ a = laws.same b a f in ap (λ c. eq a c) s ∙ ap (λ c. eq c a) (sym s)
      | inr f ↦ e ∙ sym f
    ]
  ]

  linked_by : (x y : Arc V B) → eq w (arc_value x) ≡ true → eq w (arc_value y) ≡ true → equal_at eq x y ≡ true
  linked_by x y e f = subst (λ v. eq v (arc_value y) ≡ true) (laws.same w (arc_value x) e) f

  pub agrees : (o : Option ℕ) → o ≡ position (λ k. eq w (arc_value k)) xs → IsDistinct (equal_at eq) xs → (n : ℕ) (x : Arc V B) → slice_get xs n ≡ Some x → option_eq nat_eq o (Some n) ≡ eq (arc_value x) w
  agrees o i d n x e =
      ap (λ q. option_eq nat_eq q (Some n)) i ∙ (found_number (equal_at eq) (λ k. eq w (arc_value k)) linked_by xs n x d e ∙ flips w (arc_value x))

  -- the value that a number names is found there
  pub position_of : IsDistinct (equal_at eq) xs → (n : ℕ) (x : Arc V B) → slice_get xs n ≡ Some x → w ≡ arc_value x → position (λ k. eq w (arc_value k)) xs ≡ Some n
  position_of d n x e s = by_test (position (λ k. eq w (arc_value k)) xs) (found_number (equal_at eq) (λ k. eq w (arc_value k)) linked_by xs n x d e ∙ (ap (eq w) (sym s) ∙ laws.itself w))
    where
      by_test : (o : Option ℕ) → option_eq nat_eq o (Some n) ≡ true → o ≡ Some n
      by_test None h = cc
      by_test (Some m) h = ap Some (eqb-true m n h)
