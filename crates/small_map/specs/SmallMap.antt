-- What contracts see of a `SmallMap`.
use Rattle.std.specs.Prelude.{◌≡◌, ℕ, cond, nat_eq, List, Option}
use Rattle.std.specs.Map.{lookup}

-- the numbers with their values, and how many more numbers fit with no allocation
pub record SmallMap (V : Type 0) : Type 0 where
  pub entries : List (ℕ × V)
  pub room : ℕ

-- fs has o at the number n (nothing, if it is `None`), and at each other number what es has
abbrev pub Updates : {V : Type 0} → List (ℕ × V) → List (ℕ × V) → ℕ → Option V → Type 0
Updates es fs n o = (q : ℕ) → lookup (nat_eq q) fs ≡ cond (nat_eq n q) o (lookup (nat_eq q) es)
