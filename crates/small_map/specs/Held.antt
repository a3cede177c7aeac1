-- How a `Many` holds its entries. No public clause cites this module.
use Rattle.std.specs.Prelude.{◌≡◌, ◌-◌, ◌≤◌, ℕ, nat_eq, List, length}
use Rattle.std.specs.List.{IsDistinct}
use Rattle.std.specs.Map.{keys_of}
use Rattle.std.specs.Global.{Global}
use Rattle.std.specs.declared.sync.Arc.{Arc}
use Rattle.indexmap.specs.IndexMap.{spare}
use Rattle.small_map.specs.declared.many.Held.{Held}
use Rattle.small_map.specs.declared.many.Held.TheVariants.{Few, Hashed}

abbrev pub held_entries : {T : Type 0} → Held T → List (ℕ × Arc T Global)
held_entries (Few few) = few.value
held_entries (Hashed map) = map.value.entries

-- how many more numbers fit
abbrev pub held_room : {T : Type 0} → Held T → ℕ
held_room (Few few) = 2 - length few.value
held_room (Hashed map) = spare map.value

-- no number stands twice, and there are two at most if they lie side by side
abbrev pub AreApart : {T : Type 0} → Held T → Type 0
AreApart (Few few) = IsDistinct nat_eq (keys_of few.value) × (length few.value ≤ 2)
AreApart (Hashed map) = IsDistinct nat_eq (keys_of map.value.entries)

-- they lie side by side
abbrev pub IsFew : {T : Type 0} → Held T → Type 0
IsFew (Few few) = Unit {0}
IsFew (Hashed map) = ⊥

-- a hash map has these entries, and room for n more
abbrev pub IsHashed : {T : Type 0} → List (ℕ × Arc T Global) → ℕ → Held T → Type 0
IsHashed es n (Few few) = ⊥
IsHashed es n (Hashed map) = (map.value.entries ≡ es) × (n ≤ spare map.value)
