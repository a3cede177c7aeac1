-- Elements by their places.
use Rattle.std.proofs.Common.{◌≡◌, ◌<◌, ◌+◌, ◌∙◌, sym, ap, ℕ, zero, suc, List, [], ◌∷◌, ◌++◌, length, drop, get_or, Some, add-one, drop-cons}
use Rattle.std.specs.List.{slice_get}
use Rattle.std.proofs.lemmas.Option.{none-some}

module _ {X : Type 0} where
  -- the rest of a list from an element on
  pub drop_item : (xs : List X) (k : ℕ) (x : X) → k < length xs → x ≡ get_or xs k x → drop k xs ≡ x ∷ drop (k + 1) xs
  drop_item xs k x h e = drop-cons xs k x h ∙ ap (λ (y : _). y ∷ drop (suc k) xs) (sym e) ∙ ap (λ (n : ℕ). x ∷ drop n xs) (sym (add-one k))

  -- an element stands at the same place of a longer list
  pub get_longer : (xs ys : List X) (i : ℕ) (x : X) → slice_get xs i ≡ Some x → slice_get (xs ++ ys) i ≡ Some x
  get_longer [] ys i x h = absurd (none-some x h)
  get_longer (z ∷ zs) ys zero x h = h
  get_longer (z ∷ zs) ys (suc i) x h = get_longer zs ys i x h
