-- The typed fronts of cells, of what follows them and of its parity: each holds a number.
use Rattle.std.specs.Prelude.{◌≡◌, ℕ, List, [], ◌∷◌, Option, Some, None, IsSome, refl}
use Rattle.dice_key.specs.Meaning.{Answered, Step, Asks, Ends}
use Rattle.dice_key.specs.Fronts.{ValuesAreOf}
use Rattle.dice_key.specs.declared.universe.Kind.TheVariants.{Projection}
use Rattle.tiny_universe.specs.declared.place.Place.{Place}
use Rattle.tiny_universe.specs.declared.place.Place.TheVariants.{Cell, Follow, Parity}
use Rattle.tiny_universe.specs.declared.place.Value.{Value}
use Rattle.tiny_universe.specs.declared.place.Value.TheVariants.{Number, Reading}
use Rattle.tiny_universe.specs.declared.fronts.CellKey.{CellKey}
use Rattle.tiny_universe.specs.declared.fronts.FollowKey.{FollowKey}
use Rattle.tiny_universe.specs.declared.fronts.ParityKey.{ParityKey}
use Rattle.tiny_universe.specs.Tiny.{tiny, next_move}

-- the number that a value holds; a reading of the clock holds none
abbrev pub number_of : Value → Option ℕ
number_of (Number x) = Some x
number_of (Reading x) = None

abbrev pub cell_of : CellKey → Place
cell_of k = Cell k.cell

abbrev pub follow_of : FollowKey → Place
follow_of k = Follow k.cell

abbrev pub parity_of : ParityKey → Place
parity_of k = Parity k.cell

-- what a parity is of
abbrev pub followed_by : ParityKey → FollowKey
followed_by k = record { cell = k.cell }

abbrev done_with : Value → Step Place Value
done_with x = Ends x

abbrev asks_for : List Place → Step Place Value
asks_for ks = Asks ks

-- an end in a number
holds : (n : ℕ) (x : Value) → done_with (Number n) ≡ done_with x → IsSome (number_of x)
holds n (Number y) e = refl
holds n (Reading y) e = cc

asks_on : (ks : List Place) (x : Value) → asks_for ks ≡ done_with x → IsSome (number_of x)
asks_on ks x e = cc

cell_ends : (n : ℕ) (A : List (Answered Place Value)) (v : ℕ) (x : Value) → next_move (Cell n) A v ≡ Ends x → IsSome (number_of x)
cell_ends n A v x e = holds _ x e

follow_ends : (n : ℕ) (A : List (Answered Place Value)) (v : ℕ) (x : Value) → next_move (Follow n) A v ≡ Ends x → IsSome (number_of x)
follow_ends n [] v x e = asks_on _ x e
follow_ends n (a ∷ []) v x e = asks_on _ x e
follow_ends n (a ∷ b ∷ A) v x e = holds _ x e

parity_ends : (n : ℕ) (A : List (Answered Place Value)) (v : ℕ) (x : Value) → next_move (Parity n) A v ≡ Ends x → IsSome (number_of x)
parity_ends n [] v x e = asks_on _ x e
parity_ends n (a ∷ A) v x e = holds _ x e

pub cells_are_numbers : (k : CellKey) → ValuesAreOf tiny (cell_of k) number_of
cells_are_numbers k = record { absent = refl; ends = cell_ends k.cell }

pub follows_are_numbers : (k : FollowKey) → ValuesAreOf tiny (follow_of k) number_of
follows_are_numbers k = record { absent = refl; ends = follow_ends k.cell }

pub parities_are_numbers : (k : ParityKey) → ValuesAreOf tiny (parity_of k) number_of
parities_are_numbers k = record { absent = refl; ends = parity_ends k.cell }

pub parity_projects : (k : ParityKey) → tiny.kind (parity_of k) ≡ Projection
parity_projects k = refl

pub parity_is_of_follow : (k : ParityKey) → tiny.base (parity_of k) ≡ follow_of (followed_by k)
parity_is_of_follow k = refl
