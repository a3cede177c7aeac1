-- What contracts see of the owners of a cycle's path.
use Rattle.std.specs.Prelude.{◌≡◌, ℕ, List}
use Rattle.lists.specs.Lists.{Has}

-- a cycle, and how many owners of its path there are to give away
pub record Owned (K : Type 0) : Type 0 where
  pub path : List K
  pub count : ℕ

-- each of these is x
abbrev pub AreAllOf : {X : Type 0} → X → List X → Type 0
AreAllOf {X} x xs = (y : X) → Has xs y → y ≡ x
