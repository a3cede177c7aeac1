-- Lists in which nothing stands twice.
use Rattle.std.proofs.Common.{◌≡◌, ◌≤◌, ◌⊎◌, inl, inr, List, [], ◌∷◌, ◌++◌, length, reverse, suc, refl, sym, ap, ◌∙◌, subst, arith}
use Rattle.lists.specs.Lists.{Has, AreDistinct}
use Rattle.lists.proofs.Members.{has_left, has_right, has_either, has_last, has_reverse, reverse_more}

module _ {X : Type 0} where
  -- ---- parts

  pub distinct_right : (xs ys : List X) → AreDistinct (xs ++ ys) → AreDistinct ys
  distinct_right [] ys d = d
  distinct_right (z ∷ zs) ys d = distinct_right zs ys d.1

  pub distinct_left : (xs ys : List X) → AreDistinct (xs ++ ys) → AreDistinct xs
  distinct_left [] ys d = tt
  distinct_left (z ∷ zs) ys d = (λ h. d.0 (has_left zs ys z h), distinct_left zs ys d.1)

  -- the two parts have nothing in common
  pub apart : (xs ys : List X) (x : X) → AreDistinct (xs ++ ys) → Has xs x → Has ys x → ⊥
  apart [] ys x d h k = h
  apart (z ∷ zs) ys x d (inl e) k = d.0 (has_right zs ys z (subst (Has ys) (sym e) k))
  apart (z ∷ zs) ys x d (inr h) k = apart zs ys x d.1 h k

  pub distinct_before : (xs ys : List X) (x : X) → AreDistinct (xs ++ x ∷ ys) → Has xs x → ⊥
  distinct_before xs ys x d h = apart xs (x ∷ ys) x d h (inl refl)

  pub distinct_after : (xs ys : List X) (x : X) → AreDistinct (xs ++ x ∷ ys) → Has ys x → ⊥
  distinct_after xs ys x d h = (distinct_right xs (x ∷ ys) d).0 h

  -- ---- made of parts

  pub distinct_end : (xs : List X) (x : X) → AreDistinct xs → (Has xs x → ⊥) → AreDistinct (xs ++ x ∷ [])
  distinct_end [] x d n = ((λ h. h), tt)
  distinct_end (z ∷ zs) x d n = (
    λ h. elim (has_last zs x z h) as (λ _. ⊥) [ inl l ↦ d.0 l | inr e ↦ n (inl (sym e)) ],
    distinct_end zs x d.1 (λ h. n (inr h)),
  )

  pub distinct_both : (xs ys : List X) → AreDistinct xs → AreDistinct ys → ((x : X) → Has xs x → Has ys x → ⊥) → AreDistinct (xs ++ ys)
  distinct_both [] ys d e n = e
  distinct_both (z ∷ zs) ys d e n = (
    λ h. elim (has_either zs ys z h) as (λ _. ⊥) [ inl l ↦ d.0 l | inr r ↦ n z (inl refl) r ],
    distinct_both zs ys d.1 e (λ x h k. n x (inr h) k),
  )

  pub distinct_reverse : (xs : List X) → AreDistinct xs → AreDistinct (reverse xs)
  distinct_reverse [] d = tt
  distinct_reverse (x ∷ xs) d = subst AreDistinct (sym (reverse_more x xs)) (distinct_end (reverse xs) x (distinct_reverse xs d.1) (λ h. d.0 (has_reverse xs x h)))

  -- ---- how many

  -- a list without one element that it has
  without : (x : X) (all : List X) → Has all x → (rest : List X) × (length all ≡ suc (length rest)) × ((y : X) → Has all y → (y ≡ x → ⊥) → Has rest y)
  without x [] h = absurd h
  without x (z ∷ zs) (inl e) = (zs, refl, λ y h n. elim h as (λ _. Has zs y) [ inl f ↦ absurd (n (sym f ∙ e)) | inr g ↦ g ])
  without x (z ∷ zs) (inr h) =
      let r = without x zs h in
      (z ∷ r.0, ap suc r.1, λ y h n. elim h as (λ _. (z ≡ y) ⊎ Has r.0 y) [ inl f ↦ inl f | inr g ↦ inr (r.2 y g n) ])

  -- distinct elements of a list are no more than it has
  pub few : (xs all : List X) → AreDistinct xs → ((x : X) → Has xs x → Has all x) → length xs ≤ length all
  few [] all d h = omega arith
  few (x ∷ xs) all d h =
      let r = without x all (h x (inl refl)) in
      let i : length xs ≤ length r.0 = few xs r.0 d.1 (λ y p. r.2 y (h y (inr p)) (λ e. d.0 (subst (Has xs) e p))) in
      let j : length all ≡ suc (length r.0) = r.1 in
      let k : length (x ∷ xs) ≡ suc (length xs) = refl in
      omega arith
