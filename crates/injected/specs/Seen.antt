-- What contracts see of cells.
use Rattle.std.specs.Prelude.{◌≡◌, ℕ, ◌+◌, Bool, if◌then◌else◌, List, [], Option, Some, None}
use Rattle.std.specs.Arc.{arc_value}
use Rattle.std.specs.declared.sync.Arc.{Arc}
use Rattle.std.specs.Map.{lookup}
use Rattle.dice_key.specs.Meaning.{Meaning}
use Rattle.injected.specs.History.{value_at, newest_of, AllBelow, IsRising}

-- what is kept of a key: for how many sets there is room, and the sets so far
pub record Cell (V : Type 0) : Type 0 where
  pub room : ℕ
  pub sets : List (ℕ × V)

-- the cells of the keys, in an order that says nothing, and the greatest version at which anything
-- was set
pub record Seen (K V : Type 0) : Type 0 where
  pub cells : List (K × Cell V)
  pub last : ℕ

-- a key and its cell, without the key's place in memory
abbrev pub named : {K V A : Type 0} → Arc K A × Cell V → K × Cell V
named e = (arc_value e.0, e.1)

-- the sets of a cell, and its room, if there is one
abbrev pub sets_in : {V : Type 0} → Option (Cell V) → List (ℕ × V)
sets_in None = []
sets_in (Some c) = c.sets

abbrev pub room_in : {V : Type 0} → Option (Cell V) → ℕ
room_in None = 0
room_in (Some c) = c.room

module _ {K V : Type 0} (eq : K → K → Bool) where
  -- the sets of a key
  abbrev pub sets_at : Seen K V → K → List (ℕ × V)
  sets_at c k = sets_in (lookup (eq k) c.cells)

  -- for how many more sets of a key there is room
  abbrev pub room_at : Seen K V → K → ℕ
  room_at c k = room_in (lookup (eq k) c.cells)

  -- the sets of each key rise, up to the last version
  pub record IsInOrder (c : Seen K V) : Type 0 where
    pub rising : (k : K) → IsRising (sets_at c k)
    pub bounded : (k : K) → AllBelow (sets_at c k) (c.last + 1)

module _ {K V : Type 0} (eq : K → K → Bool) (m : Meaning K V) where
  -- the value of a key at a version: that of its last set there or below, otherwise the absent one
  abbrev pub cell_at : Seen K V → ℕ → K → V
  cell_at c v k = value_at (m.absent k) (sets_at eq c k) v

  -- the newest value of a key
  abbrev pub newest_at : Seen K V → K → V
  newest_at c k = newest_of (m.absent k) (sets_at eq c k)

-- new has the cell c at the key k, and at each other key what old has
pub record Writes {K V : Type 0} (eq : K → K → Bool) (old new : List (K × Cell V)) (k : K) (c : Cell V) : Type 0 where
  pub at : (q : K) → lookup (eq q) new ≡ (if eq k q then Some c else lookup (eq q) old)
