-- The sets of one key in order, each a version and a value, and what they make of a version.
use Rattle.std.specs.Prelude.{ℕ, ◌<◌, nat_le, if◌then◌else◌, List, [], ◌∷◌}

module _ {V : Type 0} where
  -- the value of the last set at or below version v, otherwise x
  abbrev pub value_at : V → List (ℕ × V) → ℕ → V
  value_at x [] v = x
  value_at x (s ∷ ss) v = value_at (if nat_le s.0 v then s.1 else x) ss v

  -- the value of the last set, otherwise x
  abbrev pub newest_of : V → List (ℕ × V) → V
  newest_of x [] = x
  newest_of x (s ∷ ss) = newest_of s.1 ss

  -- each set lies below version v
  abbrev pub AllBelow : List (ℕ × V) → ℕ → Type 0
  AllBelow [] v = Unit {0}
  AllBelow (s ∷ ss) v = (s.0 < v) × AllBelow ss v

  -- the first set, if there is one, lies above version v
  abbrev pub FirstAbove : ℕ → List (ℕ × V) → Type 0
  FirstAbove v [] = Unit {0}
  FirstAbove v (s ∷ ss) = v < s.0

  -- the versions rise from set to set
  abbrev pub IsRising : List (ℕ × V) → Type 0
  IsRising [] = Unit {0}
  IsRising (s ∷ ss) = FirstAbove s.0 ss × IsRising ss
