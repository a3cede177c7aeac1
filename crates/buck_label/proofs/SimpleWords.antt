-- Words of small letters and digits are segments.
use Rattle.std.proofs.Common.{◌≡◌, refl, subst, inl, inr, ℕ, Bool, true, false, ◌&&◌, ◌||◌, nat_eq, nat_le, List, [], ◌∷◌, length, take, ◌≤◌, zero, suc, arith}
use Rattle.std.specs.List.{AllByRecursion}
use Rattle.std.proofs.lemmas.Bool.{cases_Bool, eqb-true}
use Rattle.buck_label.specs.declared.path.Segment.TheVariants.{Empty, Good}
use Rattle.buck_label.specs.Paths.{is_segment_byte}
use Rattle.buck_label.specs.Machine.{path_from, after, is_simple}

either : (a x c d e f g : Bool) → (a || c) ≡ true → (a || x || c || d || e || f || g) ≡ true
either true x c d e f g h = refl
either false true c d e f g h = refl
either false false true d e f g h = refl
either false false false d e f g h = cc

plain : (b : ℕ) → is_simple b ≡ true → is_segment_byte b ≡ true
plain b h = either (nat_le 97 b && nat_le b 122) (nat_le 64 b && nat_le b 90) (nat_le 48 b && nat_le b 57) (nat_eq b 95) (nat_le 43 b && nat_le b 46) (nat_eq b 61) (nat_eq b 126) h

off : (b n : ℕ) → is_simple b ≡ true → is_simple n ≡ false → nat_eq b n ≡ false
off b n h k = elim (cases_Bool (nat_eq b n)) [
  | inl t ↦ let e : is_simple n ≡ true = subst (λ (m : ℕ). is_simple m ≡ true) (eqb-true b n t) h in cc
  | inr f ↦ f
]

first : (b : ℕ) → is_simple b ≡ true → after Empty b ≡ Good
first b h = let p = plain b h in let d = off b 46 h refl in rw (p, d) refl

next : (b : ℕ) → is_simple b ≡ true → after Good b ≡ Good
next b h = let p = plain b h in let d = off b 47 h refl in rw (d, p) refl

good : (bs : List ℕ) → AllByRecursion (λ b. is_simple b ≡ true) bs → path_from Good bs ≡ Good
good [] h = refl
good (b ∷ bs) h = rw (next b h.0) (good bs h.1)

pub simple_word : (bs : List ℕ) → (length bs ≡ 0 → ⊥) → AllByRecursion (λ b. is_simple b ≡ true) bs → path_from Empty bs ≡ Good
simple_word [] n h = absurd (n refl)
simple_word (b ∷ bs) n h = rw (first b h.0) (good bs h.1)

pub all_of_it : (bs : List ℕ) (i : ℕ) → length bs ≤ i → AllByRecursion (λ b. is_simple b ≡ true) (take i bs) → AllByRecursion (λ b. is_simple b ≡ true) bs
all_of_it [] i h k = tt
all_of_it (b ∷ bs) zero h k = absurd (omega arith)
all_of_it (b ∷ bs) (suc i) h k = (k.0, all_of_it bs i (omega arith) k.1)
