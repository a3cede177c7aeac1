-- What is an element of a list that is made of others.
use Rattle.std.proofs.Common.{◌≡◌, inl, inr, List, [], ◌∷◌, ◌++◌, map, refl, subst}
use Rattle.lists.proofs.Members.{has_either, has_left, has_map, has_mapped, has_right}
use Rattle.lists.specs.Lists.{Has}

-- f of each pair
module _ {X Y Z : Type 0} (f : X → Y → Z) where
  abbrev pub crossed : List X → List Y → List Z
  crossed [] ys = []
  crossed (x ∷ xs) ys = map (f x) ys ++ crossed xs ys

  pub has_crossed : (xs : List X) (ys : List Y) (x : X) (y : Y) → Has xs x → Has ys y → Has (crossed xs ys) (f x y)
  has_crossed [] ys x y h g = absurd h
  has_crossed (z ∷ zs) ys x y (inl e) g = has_left (map (f z) ys) (crossed zs ys) (f x y) (subst (λ w. Has (map (f z) ys) (f w y)) e (has_map (f z) ys y g))
  has_crossed (z ∷ zs) ys x y (inr h) g = has_right (map (f z) ys) (crossed zs ys) (f x y) (has_crossed zs ys x y h g)

  pub of_crossed : (xs : List X) (ys : List Y) (z : Z) → Has (crossed xs ys) z → (x : X) × (y : Y) × Has xs x × Has ys y × (f x y ≡ z)
  of_crossed [] ys z h = absurd h
  of_crossed (x ∷ xs) ys z h = elim (has_either (map (f x) ys) (crossed xs ys) z h) as (λ _. (a : X) × (b : Y) × Has (x ∷ xs) a × Has ys b × (f a b ≡ z)) [
    | inl a ↦ (let r = has_mapped (f x) ys z a in (x, r.0, inl refl, r.1, r.2))
    | inr b ↦ (let r = of_crossed xs ys z b in (r.0, r.1, inr r.2, r.3, r.4))
  ]
