-- How the numbers of a `NumberSet` are kept. No public clause cites this module.
use Rattle.std.specs.Prelude.{ℕ, nat_eq, List, [], ◌∷◌}
use Rattle.std.specs.List.{IsDistinct}
use Rattle.indexmap.specs.IndexSet.{spare}
use Rattle.small_set.specs.declared.numbers.Kept.{Kept}
use Rattle.small_set.specs.declared.numbers.Kept.TheVariants.{Empty, Single, Many}

abbrev pub keys_in : Kept → List ℕ
keys_in Empty = []
keys_in (Single number) = number ∷ []
keys_in (Many set) = set.value.keys

-- how many more numbers fit
abbrev pub room_in : Kept → ℕ
room_in Empty = 1
room_in (Single number) = 0
room_in (Many set) = spare set.value

-- no number stands twice
abbrev pub AreApart : Kept → Type 0
AreApart k = IsDistinct nat_eq (keys_in k)
