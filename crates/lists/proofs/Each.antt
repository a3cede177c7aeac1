-- What holds of each element, of one list or of two lists place by place.
use Rattle.std.proofs.Common.{◌≡◌, ℕ, zero, suc, List, [], ◌∷◌, ◌++◌, length, take, refl, ap}
use Rattle.std.specs.List.{AllByRecursion, AllZip}

module _ {X : Type 0} (P : X → Type 0) where
  pub all_append : (xs ys : List X) → AllByRecursion P xs → AllByRecursion P ys → AllByRecursion P (xs ++ ys)
  all_append [] ys a b = b
  all_append (x ∷ xs) ys a b = (a.0, all_append xs ys a.1 b)

  pub all_end : (xs : List X) (x : X) → AllByRecursion P xs → P x → AllByRecursion P (xs ++ x ∷ [])
  all_end xs x a p = all_append xs (x ∷ []) a (p, tt)

  pub all_middle : (xs ys : List X) (x : X) → AllByRecursion P (xs ++ x ∷ ys) → P x
  all_middle [] ys x a = a.0
  all_middle (z ∷ zs) ys x a = all_middle zs ys x a.1

  pub all_take : (n : ℕ) (xs : List X) → AllByRecursion P xs → AllByRecursion P (take n xs)
  all_take zero xs a = tt
  all_take (suc n) [] a = tt
  all_take (suc n) (x ∷ xs) a = (a.0, all_take n xs a.1)

module _ {X Y : Type 0} (P : X → Y → Type 0) where
  pub zip_end : (xs : List X) (ys : List Y) (x : X) (y : Y) → AllZip P xs ys → P x y → AllZip P (xs ++ x ∷ []) (ys ++ y ∷ [])
  zip_end [] [] x y z p = (p, tt)
  zip_end [] (b ∷ ys) x y z p = absurd z
  zip_end (a ∷ xs) [] x y z p = absurd z
  zip_end (a ∷ xs) (b ∷ ys) x y z p = (z.0, zip_end xs ys x y z.1 p)

  pub zip_length : (xs : List X) (ys : List Y) → AllZip P xs ys → length ys ≡ length xs
  zip_length [] [] z = refl
  zip_length [] (b ∷ ys) z = absurd z
  zip_length (a ∷ xs) [] z = absurd z
  zip_length (a ∷ xs) (b ∷ ys) z = ap suc (zip_length xs ys z.1)
