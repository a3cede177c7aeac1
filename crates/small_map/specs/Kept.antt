-- How the entries are kept. No public clause cites this module.
use Rattle.std.specs.Prelude.{◌≡◌, ◌≤◌, ℕ, nat_eq, List, [], ◌∷◌}
use Rattle.std.specs.List.{IsDistinct}
use Rattle.std.specs.Map.{keys_of}
use Rattle.std.specs.Global.{Global}
use Rattle.std.specs.declared.sync.Arc.{Arc}
use Rattle.small_map.specs.declared.map.Kept.{Kept}
use Rattle.small_map.specs.declared.map.Kept.TheVariants.{Empty, Single, Many}

abbrev pub entries_of : {T : Type 0} → Kept T → List (ℕ × Arc T Global)
entries_of Empty = []
entries_of (Single number value) = (number, value) ∷ []
entries_of (Many many) = many.entries

-- how many more numbers fit
abbrev pub room_of : {T : Type 0} → Kept T → ℕ
room_of Empty = 1
room_of (Single number value) = 0
room_of (Many many) = many.room

-- no number stands twice
abbrev pub AreApart : {T : Type 0} → Kept T → Type 0
AreApart k = IsDistinct nat_eq (keys_of (entries_of k))

-- at most one entry is there, in the map itself
abbrev pub IsFew : {T : Type 0} → Kept T → Type 0
IsFew Empty = Unit {0}
IsFew (Single number value) = Unit {0}
IsFew (Many many) = ⊥

-- one entry is there, in the map itself
abbrev pub IsSingle : {T : Type 0} → Kept T → Type 0
IsSingle Empty = ⊥
IsSingle (Single number value) = Unit {0}
IsSingle (Many many) = ⊥

-- a `Many` has these entries, and room for n more
abbrev pub IsSpread : {T : Type 0} → List (ℕ × Arc T Global) → ℕ → Kept T → Type 0
IsSpread es n Empty = ⊥
IsSpread es n (Single number value) = ⊥
IsSpread es n (Many many) = (many.entries ≡ es) × (n ≤ many.room)
