-- The entries of a `Few`. No public clause cites this module.
use Rattle.std.specs.Prelude.{◌≡◌, ℕ, nat_eq, List, [], length}
use Rattle.std.specs.List.{zip, IsDistinct}
use Rattle.small_map.specs.declared.few.Side.{Side}
use Rattle.small_map.specs.declared.few.Side.TheVariants.{Zero, One, Two}

abbrev pub entries_in : {V : Type 0} → Side V → List (ℕ × V)
entries_in Zero = []
entries_in (One numbers values) = zip numbers values
entries_in (Two numbers values) = zip numbers values

-- there are n numbers, no two the same, and n values
abbrev pub ArePaired : {V : Type 0} → ℕ → List ℕ → List V → Type 0
ArePaired n numbers values = (length numbers ≡ n) × (length values ≡ n) × IsDistinct nat_eq numbers

-- each number has a value, and none stands twice
abbrev pub AreFew : {V : Type 0} → Side V → Type 0
AreFew Zero = Unit {0}
AreFew (One numbers values) = ArePaired 1 numbers values
AreFew (Two numbers values) = ArePaired 2 numbers values
