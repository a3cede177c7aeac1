-- In which order keys come.
use Rattle.std.specs.Prelude.{◌≡◌, ◌⊎◌, List, [], ◌∷◌}
use Rattle.lists.specs.Lists.{Has}

-- x stands in the list, and y after it
abbrev pub IsBefore : {X : Type 0} → List X → X → X → Type 0
IsBefore [] x y = ⊥
IsBefore (z ∷ zs) x y = ((z ≡ x) × Has zs y) ⊎ IsBefore zs x y

-- x stands in the list, and y does not stand before it
abbrev pub ComesFirst : {X : Type 0} → List X → X → X → Type 0
ComesFirst [] x y = ⊥
ComesFirst (z ∷ zs) x y = (z ≡ x) ⊎ ((z ≡ y → ⊥) × ComesFirst zs x y)

-- the ys come in the order in which they first stand among the xs
abbrev pub AreInOrder : {X : Type 0} → List X → List X → Type 0
AreInOrder {X} xs ys = (x y : X) → IsBefore ys x y → ComesFirst xs x y

-- they come in the other order
abbrev pub AreLastFirst : {X : Type 0} → List X → List X → Type 0
AreLastFirst {X} xs ys = (x y : X) → IsBefore ys y x → ComesFirst xs x y
