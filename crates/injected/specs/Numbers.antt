-- Sets that name their values by number: that of a value is its place among the values of the key.
use Rattle.std.specs.Prelude.{ℕ, ◌<◌, ◌≤◌, ◌-◌, Bool, List, [], ◌∷◌, ◌++◌, length, map, nat_eq, Option, Some, None, slice_get, slice_index_or}
use Rattle.std.specs.Option.{option_eq}
use Rattle.std.specs.List.{IsDistinct}
use Rattle.std.specs.Arc.{arc_value}
use Rattle.std.specs.declared.sync.Arc.{Arc}

module _ {V B : Type 0} where
  -- the set at version v to the value that was found, if one was
  abbrev pub pick : ℕ → Option (Arc V B) → List (ℕ × V)
  pick v None = []
  pick v (Some x) = (v, arc_value x) ∷ []

  -- the sets, each with the value that its number names
  abbrev pub sets_of : List (Arc V B) → List (ℕ × ℕ) → List (ℕ × V)
  sets_of xs [] = []
  sets_of xs (s ∷ ss) = pick s.0 (slice_get xs s.1) ++ sets_of xs ss

  -- whether two values are equal, wherever they lie in memory
  abbrev pub equal_at : (V → V → Bool) → Arc V B → Arc V B → Bool
  equal_at eq x y = eq (arc_value x) (arc_value y)

-- the sets, each with whether its number is n
abbrev pub tests : Option ℕ → List (ℕ × ℕ) → List (ℕ × Bool)
tests n ss = map (λ s. (s.0, option_eq nat_eq n (Some s.1))) ss

-- whether the number of a set is n
abbrev pub names : Option ℕ → ℕ × ℕ → Bool
names n s = option_eq nat_eq n (Some s.1)

-- the first k sets lie at version v or below it, and the others above it
pub record AreBegun (v : ℕ) (ss : List (ℕ × ℕ)) (k : ℕ) : Type 0 where
  pub bound : k ≤ length ss
  pub low : (d : ℕ × ℕ) → 0 < k → (slice_index_or ss (k - 1) d).0 ≤ v
  pub high : (d : ℕ × ℕ) → k < length ss → v < (slice_index_or ss k d).0

-- each number is below n
abbrev pub AllNumbered : ℕ → List (ℕ × ℕ) → Type 0
AllNumbered n [] = Unit {0}
AllNumbered n (s ∷ ss) = (s.1 < n) × AllNumbered n ss

-- each number names a value, no two values are equal, and there are places for as many sets as
-- there is room for
pub record IsNumbered {V B : Type 0} (eq : V → V → Bool) (xs : List (Arc V B)) (ss : List (ℕ × ℕ)) (room free_sets free_values : ℕ) : Type 0 where
  pub named : AllNumbered (length xs) ss
  pub distinct : IsDistinct (equal_at eq) xs
  pub sets_fit : room ≤ free_sets
  pub values_fit : room ≤ free_values
