-- One more line, or event, of a journal.
use Rattle.std.proofs.Common.{◌≡◌, ◌<◌, ◌∙◌, ℕ, zero, suc, ◌+◌, List, [], ◌∷◌, ◌++◌, length, map, take, drop, get_or, Some, refl, sym, ap, subst, arith, append_assoc}
use Rattle.std.proofs.Math.Seq.{take-suc}
use Rattle.std.proofs.lemmas.List.{map-append}
use Rattle.std.proofs.lemmas.Option.{same_Some}
use Rattle.std.specs.List.{AllZip, slice_get}

module _ {A B : Type 0} (R : A → B → Type 0) where
  -- what holds of the first elements holds of one more
  zipped_next : (xs : List A) (ys : List B) (i : ℕ) (y : B) → i < length xs → AllZip R (take i xs) ys → ((x : A) → slice_get xs i ≡ Some x → R x y) → AllZip R (take (suc i) xs) (ys ++ y ∷ [])
  zipped_next [] ys i y l h r = absurd (omega arith)
  zipped_next (x ∷ xs) [] zero y l h r = (r x refl, tt)
  zipped_next (x ∷ xs) (b ∷ ys) zero y l h r = absurd h
  zipped_next (x ∷ xs) [] (suc i) y l h r = absurd h
  zipped_next (x ∷ xs) (b ∷ ys) (suc i) y l h r = (h.0, zipped_next xs ys i y (omega arith) h.1 r)

  pub zipped_more : (xs : List A) (ys : List B) (i : ℕ) (y : B) → i < length xs → AllZip R (take i xs) ys → ((x : A) → slice_get xs i ≡ Some x → R x y) → AllZip R (take (i + 1) xs) (ys ++ y ∷ [])
  zipped_more xs ys i y l h r = let on : suc i ≡ i + 1 = omega arith in subst (λ n. AllZip R (take n xs) (ys ++ y ∷ [])) on (zipped_next xs ys i y l h r)

module _ {A B : Type 0} (f : A → B) where
  drop_next : (J : List B) (i : ℕ) (b : B) → i < length J → slice_get J i ≡ Some b → drop i J ≡ b ∷ drop (suc i) J
  drop_next [] i b l e = absurd (omega arith)
  drop_next (y ∷ J) zero b l e = ap (λ z. z ∷ J) (same_Some y b e)
  drop_next (y ∷ J) (suc i) b l e = drop_next J i b (omega arith) e

  -- one more was copied from a list, of which the rest is left
  pub copied_next : (es : List A) (J W : List B) (i : ℕ) (e : A) → i < length J → slice_get J i ≡ Some (f e) → map f es ++ drop i J ≡ W → map f (es ++ e ∷ []) ++ drop (i + 1) J ≡ W
  copied_next es J W i e l s w =
      let on : suc i ≡ i + 1 = omega arith in
      ap (λ z. z ++ drop (i + 1) J) (map-append f es (e ∷ []))
      ∙ (append_assoc (map f es) (f e ∷ []) (drop (i + 1) J)
      ∙ (ap (λ z. map f es ++ z) (sym (drop_next J i (f e) l s ∙ ap (λ n. f e ∷ drop n J) on)) ∙ w))

  -- one more of a list's first elements was copied
  pub copied_more : {C : Type 0} (g : C → B) (es : List A) (xs : List C) (i : ℕ) (e : A) (x : C) → i < length xs → x ≡ get_or xs i x → f e ≡ g x → map f es ≡ map g (take i xs) → map f (es ++ e ∷ []) ≡ map g (take (i + 1) xs)
  copied_more g es xs i e x l is same so =
      let on : suc i ≡ i + 1 = omega arith in
      let t : take (i + 1) xs ≡ take i xs ++ x ∷ [] = ap (λ n. take n xs) (sym on) ∙ (take-suc xs i x l ∙ ap (λ z. take i xs ++ z ∷ []) (sym is)) in
      map-append f es (e ∷ [])
      ∙ (ap (λ z. z ++ f e ∷ []) so
      ∙ (ap (λ z. map g (take i xs) ++ z ∷ []) same
      ∙ (sym (map-append g (take i xs) (x ∷ [])) ∙ ap (map g) (sym t))))
