-- The one list of ranges for a set of versions: in rising order, none empty, no two touching.
use Rattle.std.specs.Prelude.{◌≡◌, ◌<◌, ◌≤◌, ◌-◌, ℕ, Bool, true, false, nat_lt, List, [], ◌∷◌, length, slice_index_or, Option, Some, None}
use Rattle.version_ranges.specs.declared.half_open.Range.{Range}
use Rattle.version_ranges.specs.Members.{is_before}

-- whether an end lies below a version, so that at least one version lies between the two
abbrev pub ends_below : Option ℕ → ℕ → Bool
ends_below None w = false
ends_below (Some t) w = nat_lt t w

-- the first of the ranges begins above an end
abbrev pub BeginAbove : Option ℕ → List Range → Type 0
BeginAbove e [] = Unit {0}
BeginAbove e (s ∷ ss) = ends_below e s.from ≡ true

-- each range has a version, and the next one begins above its end; so only the last may be open
abbrev pub IsSeparate : List Range → Type 0
IsSeparate [] = Unit {0}
IsSeparate (r ∷ rs) = (is_before r.from r.to ≡ true) × BeginAbove r.to rs × IsSeparate rs

-- the last range, if there is one, begins at a version or before it
abbrev pub LastBeginsBy : List Range → ℕ → Type 0
LastBeginsBy rs w = (d : Range) → 0 < length rs → (slice_index_or rs (length rs - 1) d).from ≤ w
