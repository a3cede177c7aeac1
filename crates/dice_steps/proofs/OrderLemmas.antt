-- Which of two elements comes first in a list that grows, or is turned round.
use Rattle.std.proofs.Common.{◌≡◌, ◌⊎◌, inl, inr, List, [], ◌∷◌, ◌++◌, map, reverse, refl, sym, ap, ◌∙◌, subst}
use Rattle.dice_steps.specs.Orders.{IsBefore, ComesFirst, AreInOrder, AreLastFirst}
use Rattle.dice_steps.proofs.PartLemmas.{map_last}
use Rattle.lists.proofs.Members.{has_end, has_last, has_more, has_reverse, reverse_more}
use Rattle.lists.specs.Lists.{Has}

module _ {X : Type 0} where
  before_last : (xs : List X) (z x y : X) → IsBefore (xs ++ z ∷ []) x y → IsBefore xs x y ⊎ (Has xs x × (z ≡ y))
  before_last [] z x y (inl h) = absurd h.1
  before_last [] z x y (inr h) = absurd h
  before_last (w ∷ xs) z x y (inl h) = elim (has_last xs z y h.1) as (λ _. IsBefore (w ∷ xs) x y ⊎ (Has (w ∷ xs) x × (z ≡ y))) [ inl i ↦ inl (inl (h.0, i)) | inr e ↦ inr (inl h.0, e) ]
  before_last (w ∷ xs) z x y (inr h) = elim (before_last xs z x y h) as (λ _. IsBefore (w ∷ xs) x y ⊎ (Has (w ∷ xs) x × (z ≡ y))) [ inl i ↦ inl (inr i) | inr r ↦ inr (inr r.0, r.1) ]

  pub before_more : (xs : List X) (z x y : X) → IsBefore xs x y → IsBefore (xs ++ z ∷ []) x y
  before_more [] z x y h = absurd h
  before_more (w ∷ xs) z x y (inl h) = inl (h.0, has_more xs z y h.1)
  before_more (w ∷ xs) z x y (inr h) = inr (before_more xs z x y h)

  pub before_end : (xs : List X) (z x : X) → Has xs x → IsBefore (xs ++ z ∷ []) x z
  before_end [] z x h = absurd h
  before_end (w ∷ xs) z x (inl e) = inl (e, has_end xs z)
  before_end (w ∷ xs) z x (inr h) = inr (before_end xs z x h)

  before_turned : (xs : List X) (x y : X) → IsBefore (reverse xs) x y → IsBefore xs y x
  before_turned [] x y h = h
  before_turned (w ∷ xs) x y h = elim (before_last (reverse xs) w x y (subst (λ zs. IsBefore zs x y) (reverse_more w xs) h)) as (λ _. IsBefore (w ∷ xs) y x) [
    | inl i ↦ inr (before_turned xs x y i)
    | inr r ↦ inl (r.1, has_reverse xs x r.0)
  ]

  first_more : (xs : List X) (z x y : X) → ComesFirst xs x y → ComesFirst (xs ++ z ∷ []) x y
  first_more [] z x y h = absurd h
  first_more (w ∷ xs) z x y (inl e) = inl e
  first_more (w ∷ xs) z x y (inr h) = inr (h.0, first_more xs z x y h.1)

  -- one that is there comes before one that is not
  first_there : (xs : List X) (x y : X) → Has xs x → (Has xs y → ⊥) → ComesFirst xs x y
  first_there [] x y h n = absurd h
  first_there (w ∷ xs) x y (inl e) n = inl e
  first_there (w ∷ xs) x y (inr h) n = inr (λ e. n (inl e), first_there xs x y h (λ i. n (inr i)))

  -- one that is left out
  pub order_skip : (xs ys : List X) (z : X) → AreInOrder xs ys → AreInOrder (xs ++ z ∷ []) ys
  order_skip xs ys z h x y i = first_more xs z x y (h x y i)

  -- one that is new
  pub order_more : (xs ys : List X) (z : X) → AreInOrder xs ys → ((x : X) → Has ys x → Has xs x) → (Has xs z → ⊥) → AreInOrder (xs ++ z ∷ []) (ys ++ z ∷ [])
  order_more xs ys z h among new x y i = elim (before_last ys z x y i) as (λ _. ComesFirst (xs ++ z ∷ []) x y) [
    | inl j ↦ first_more xs z x y (h x y j)
    | inr r ↦ first_more xs z x y (first_there xs x y (among x r.0) (λ j. new (subst (Has xs) (sym r.1) j)))
  ]

  -- one alone
  pub order_one : (xs : List X) (z : X) → AreLastFirst xs (z ∷ [])
  order_one xs z x y (inl h) = absurd h.1
  order_one xs z x y (inr h) = absurd h

map_turned : {X Y : Type 0} (f : X → Y) (xs : List X) → map f (reverse xs) ≡ reverse (map f xs)
map_turned f [] = refl
map_turned f (x ∷ xs) = ap (map f) (reverse_more x xs) ∙ (map_last f (reverse xs) x ∙ (ap (λ zs. zs ++ f x ∷ []) (map_turned f xs) ∙ sym (reverse_more (f x) (map f xs))))

-- in the other order
pub order_turned : {X Y : Type 0} (f : X → Y) (ys : List Y) (xs : List X) → AreInOrder ys (map f xs) → AreLastFirst ys (map f (reverse xs))
order_turned f ys xs h x y i = h x y (before_turned (map f xs) y x (subst (λ zs. IsBefore zs y x) (map_turned f xs) i))
