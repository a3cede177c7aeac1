-- Which versions a list of ranges has.
use Rattle.std.specs.Prelude.{ℕ, Bool, true, false, ◌&&◌, ◌||◌, nat_lt, nat_le, List, [], ◌∷◌, Option, Some, None, is_none}
use Rattle.version_ranges.specs.declared.half_open.Range.{Range}

-- whether a version comes before an end; a range without end never ends
abbrev pub is_before : ℕ → Option ℕ → Bool
is_before w None = true
is_before w (Some t) = nat_lt w t

-- whether a range has a version: its start belongs to it, its end does not
abbrev pub is_in : Range → ℕ → Bool
is_in r w = nat_le r.from w && is_before w r.to

-- whether one of the ranges has a version
abbrev pub contains : List Range → ℕ → Bool
contains [] w = false
contains (r ∷ rs) w = is_in r w || contains rs w

-- whether the last range has no end
abbrev pub is_open : List Range → Bool
is_open [] = false
is_open (r ∷ []) = is_none r.to
is_open (r ∷ s ∷ rs) = is_open (s ∷ rs)
