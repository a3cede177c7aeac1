-- Vectors that are compared lane by lane.
use Rattle.std.proofs.Common.{◌≡◌, ℕ, zero, suc, ◌%◌, ◌^◌, ◌+◌, ◌*◌, nat_eq, Bool, true, false, not, ◌&&◌, cond, List, [], ◌∷◌, map, length, refl, sym, ap, ◌∙◌, arith, w8}
use Rattle.std.proofs.lemmas.Bool.{ne_eqb}
use Rattle.std.specs.Cmp.Lexicographic.{pointwise}
use Rattle.std.proofs.lemmas.Simd.{tops_compared, mask_l-mod, length-zip2}
use lib.Lanes.{zip2, mask_l, top}

-- two bytes differ
abbrev pub differ : ℕ → ℕ → Bool
differ a b = not (nat_eq a b)

-- no bit of the comparison is set exactly if the lists are the same
no_bit : (xs ys : List ℕ) → length xs ≡ length ys → nat_eq (mask_l (zip2 differ xs ys)) 0 ≡ pointwise nat_eq xs ys
no_bit [] [] same = refl
no_bit [] (y ∷ ys) same = absurd (omega arith)
no_bit (x ∷ xs) [] same = absurd (omega arith)
no_bit (x ∷ xs) (y ∷ ys) same = first (nat_eq x y) (mask_l (zip2 differ xs ys)) (no_bit xs ys (omega arith))
  where
    first : (b : Bool) (rest : ℕ) → nat_eq rest 0 ≡ pointwise nat_eq xs ys → nat_eq (cond (not b) 1 0 + 2 * rest) 0 ≡ (b && pointwise nat_eq xs ys)
    first true rest so = twice rest ∙ so
      where
        twice : (n : ℕ) → nat_eq (0 + 2 * n) 0 ≡ nat_eq n 0
        twice zero = refl
        twice (suc n) = ne_eqb (0 + 2 * suc n) 0 (λ e. omega arith) ∙ sym (ne_eqb (suc n) 0 (λ e. omega arith))
    first false rest so = ne_eqb (1 + 2 * rest) 0 (λ e. omega arith)

pub all_equal : (xs ys : List ℕ) → length xs ≡ 16 → length ys ≡ 16
    → nat_eq (mask_l (map (top 7) (zip2 (λ a b. cond (differ a b) 255 0) xs ys)) % 2 ^ 64) 0 ≡ pointwise nat_eq xs ys
all_equal xs ys long others = ap (λ l. nat_eq (mask_l l % 2 ^ 64) 0) (tops_compared w8 differ xs ys)
    ∙ ap (λ n. nat_eq n 0) (mask_l-mod (zip2 differ xs ys) 64 (omega (arith, length-zip2 differ xs ys (omega arith))))
    ∙ no_bit xs ys (omega arith)
