-- What stands in a list that is made of others.
use Rattle.std.proofs.Common.{◌≡◌, ◌⊎◌, inl, inr, ◌<◌, Bool, true, false, cond, List, [], ◌∷◌, ◌++◌, length, map, filter, reverse, suc, refl, sym, ap, ◌∙◌, subst, arith}
use Rattle.std.proofs.lemmas.List.{reverse-append}
use Rattle.lists.specs.Lists.{Has}

module _ {X : Type 0} where
  -- ---- two lists, one after the other

  pub has_left : (xs ys : List X) (x : X) → Has xs x → Has (xs ++ ys) x
  has_left [] ys x h = absurd h
  has_left (z ∷ zs) ys x (inl e) = inl e
  has_left (z ∷ zs) ys x (inr h) = inr (has_left zs ys x h)

  pub has_right : (xs ys : List X) (x : X) → Has ys x → Has (xs ++ ys) x
  has_right [] ys x h = h
  has_right (z ∷ zs) ys x h = inr (has_right zs ys x h)

  pub has_either : (xs ys : List X) (x : X) → Has (xs ++ ys) x → Has xs x ⊎ Has ys x
  has_either [] ys x h = inr h
  has_either (z ∷ zs) ys x (inl e) = inl (inl e)
  has_either (z ∷ zs) ys x (inr h) = elim (has_either zs ys x h) as (λ _. Has (z ∷ zs) x ⊎ Has ys x) [ inl a ↦ inl (inr a) | inr b ↦ inr b ]

  pub has_middle : (xs ys : List X) (x : X) → Has (xs ++ x ∷ ys) x
  has_middle [] ys x = inl refl
  has_middle (z ∷ zs) ys x = inr (has_middle zs ys x)

  -- ---- one element more, at the end

  pub has_end : (xs : List X) (x : X) → Has (xs ++ x ∷ []) x
  has_end xs x = has_middle xs [] x

  pub has_more : (xs : List X) (y x : X) → Has xs x → Has (xs ++ y ∷ []) x
  has_more xs y x h = has_left xs (y ∷ []) x h

  pub has_last : (xs : List X) (y x : X) → Has (xs ++ y ∷ []) x → Has xs x ⊎ (y ≡ x)
  has_last [] y x (inl e) = inr e
  has_last [] y x (inr h) = absurd h
  has_last (z ∷ zs) y x (inl e) = inl (inl e)
  has_last (z ∷ zs) y x (inr h) = elim (has_last zs y x h) as (λ _. Has (z ∷ zs) x ⊎ (y ≡ x)) [ inl p ↦ inl (inr p) | inr e ↦ inr e ]

  -- ---- in the other order

  pub reverse_more : (x : X) (xs : List X) → reverse (x ∷ xs) ≡ reverse xs ++ x ∷ []
  reverse_more x xs = reverse-append (x ∷ []) xs

  pub has_reverse : (xs : List X) (x : X) → Has (reverse xs) x → Has xs x
  has_reverse [] x h = h
  has_reverse (y ∷ ys) x h = elim (has_last (reverse ys) y x (subst (λ zs. Has zs x) (reverse_more y ys) h)) as (λ _. Has (y ∷ ys) x) [ inl i ↦ inr (has_reverse ys x i) | inr e ↦ inl e ]

  pub reverse_has : (xs : List X) (x : X) → Has xs x → Has (reverse xs) x
  reverse_has [] x h = h
  reverse_has (y ∷ ys) x (inl e) = subst (λ zs. Has zs x) (sym (reverse_more y ys)) (subst (Has (reverse ys ++ y ∷ [])) e (has_end (reverse ys) y))
  reverse_has (y ∷ ys) x (inr h) = subst (λ zs. Has zs x) (sym (reverse_more y ys)) (has_more (reverse ys) y x (reverse_has ys x h))

  -- ---- nothing is left

  pub none_left : (xs : List X) → (0 < length xs → ⊥) → xs ≡ []
  none_left [] n = refl
  none_left (x ∷ xs) n = absurd (n (let l : length (x ∷ xs) ≡ suc (length xs) = refl in omega arith))

-- ---- of each element something is made

module _ {X Y : Type 0} (f : X → Y) where
  pub has_map : (xs : List X) (x : X) → Has xs x → Has (map f xs) (f x)
  has_map [] x h = absurd h
  has_map (z ∷ zs) x (inl e) = inl (ap f e)
  has_map (z ∷ zs) x (inr h) = inr (has_map zs x h)

  pub has_mapped : (xs : List X) (y : Y) → Has (map f xs) y → (x : X) × Has xs x × (f x ≡ y)
  has_mapped [] y h = absurd h
  has_mapped (z ∷ zs) y (inl e) = (z, inl refl, e)
  has_mapped (z ∷ zs) y (inr h) = let r = has_mapped zs y h in (r.0, inr r.1, r.2)

-- ---- what is left by a test is what passes it

module _ {X : Type 0} (f : X → Bool) where
  pub filter_has : (xs : List X) (q : X) → Has (filter f xs) q → f q ≡ true
  filter_has [] q h = absurd h
  filter_has (x ∷ xs) q h = by_test (f x) refl (λ i. filter_has xs q i) h
    where
      by_test : (b : Bool) → f x ≡ b → (Has (filter f xs) q → f q ≡ true) → Has (cond b (x ∷ filter f xs) (filter f xs)) q → f q ≡ true
      by_test true e g (inl p) = subst (λ y. f y ≡ true) p e
      by_test true e g (inr i) = g i
      by_test false e g i = g i

  pub has_filter : (xs : List X) (q : X) → Has xs q → f q ≡ true → Has (filter f xs) q
  has_filter [] q h t = absurd h
  has_filter (x ∷ xs) q (inl e) t = by_test (f x) (ap f e ∙ t)
    where
      by_test : (b : Bool) → b ≡ true → Has (cond b (x ∷ filter f xs) (filter f xs)) q
      by_test true p = inl e
      by_test false p = cc
  has_filter (x ∷ xs) q (inr h) t = by_test (f x) (has_filter xs q h t)
    where
      by_test : (b : Bool) → Has (filter f xs) q → Has (cond b (x ∷ filter f xs) (filter f xs)) q
      by_test true i = inr i
      by_test false i = i
