-- What a copy has: the rows in a hash map, and beside it the other operations.
use Rattle.std.specs.Prelude.{◌≡◌, ℕ, ◌≤◌, List, [], ◌∷◌, ◌++◌, map, take, drop, Bool, true, nat_eq, ◌&&◌, if◌then◌else◌, Option, None, Some, is_some, Result, Ok, Err}
use Rattle.std.specs.Arc.{arc_value}
use Rattle.std.specs.declared.sync.Arc.{Arc}
use Rattle.std.specs.Map.{lookup}
use Rattle.indexmap.specs.IndexMap.{IndexMap, get}
use Rattle.std.specs.Option.{option_map, option_or}
use Rattle.shelf.specs.declared.row.RowKey.{RowKey}
use Rattle.shelf.specs.declared.store.Aside.{Aside}
use Rattle.shelf.specs.declared.op.Plain.{Plain}
use Rattle.shelf.specs.declared.op.Plain.TheVariants as bare
use Rattle.shelf.specs.Ops.{plain, row_at}

-- whether it is that version and key
abbrev pub is_place : {K : Type 0} → (K → K → Bool) → ℕ → K → RowKey K → Bool
is_place eq v k r = nat_eq v r.version && eq k (arc_value r.key)

module _ {K V A : Type 0} (eq : K → K → Bool) where
  -- the value at that version and key, if there is one
  abbrev pub value_in : ℕ → K → List (RowKey K × Arc V A) → Option V
  value_in v k es = option_map (λ x. arc_value x) (lookup (is_place eq v k) es)

  -- the map has at each version and key the value of the first row of them in the list, and no other
  abbrev pub Agrees : List (RowKey K × Arc V A) → List (Plain K V) → Type 0
  Agrees es ops = (v : ℕ) (k : K) → value_in v k es ≡ row_at (eq k) v ops

  -- a value is put in at a version and key, unless there is one
  abbrev pub AddsRow : ℕ → K → V → List (RowKey K × Arc V A) → List (RowKey K × Arc V A) → Type 0
  AddsRow v k x es fs = (w : ℕ) (q : K) → value_in w q fs ≡ option_or (value_in w q es) (if nat_eq w v && eq q k then Some x else None)

-- The operations in order. Rows of the map stand as they do there, and each of the others after so many of them.
module _ {K V A : Type 0} where
  abbrev pub plain_row : RowKey K × Arc V A → Plain K V
  plain_row e = bare.Row e.0.version (arc_value e.0.key) (arc_value e.1)

  -- those from the row n on
  abbrev pub woven : ℕ → List (RowKey K × Arc V A) → List (Aside K V) → List (Plain K V)
  woven n es [] = map plain_row (drop n es)
  woven n es (o ∷ os) = map plain_row (drop n (take o.after es)) ++ plain o.op ∷ woven o.after es os

module _ {K V : Type 0} where
  -- the others stand in order, at the row n or later, and none after more rows than `end`
  abbrev pub InOrder : ℕ → ℕ → List (Aside K V) → Type 0
  InOrder n end [] = n ≤ end
  InOrder n end (o ∷ os) = (n ≤ o.after) × InOrder o.after end os

module _ {K V : Type 0} (eq : K → K → Bool) where
  -- it is a commit, or the list has a row of its version and key
  abbrev pub IsNoNewRow : List (Plain K V) → Plain K V → Type 0
  IsNoNewRow ops (bare.Commit changes) = Unit {0}
  IsNoNewRow ops (bare.Row version key value) = is_some (row_at (eq key) version ops) ≡ true

module _ {K V A : Type 0} (eq : K → K → Bool) where
  -- a row is put in at the end of a list that had none of its version and key; otherwise the value comes back, and the list stays
  abbrev pub PutsRow : ℕ → K → Arc V A → Result (Option (Arc V A)) (Arc V A) → List (Plain K V) → List (Plain K V) → Type 0
  PutsRow v k x (Ok None) old new = new ≡ old ++ bare.Row v k (arc_value x) ∷ []
  PutsRow v k x (Ok (Some y)) old new = (y ≡ x) × (new ≡ old) × (is_some (row_at (eq k) v old) ≡ true)
  PutsRow v k x (Err y) old new = (y ≡ x) × (new ≡ old)

module _ {K V A S : Type 0} (eq : K → K → Bool) where
  -- the value at that version and key in a map
  abbrev pub row_of : ℕ → K → IndexMap (RowKey K) (Arc V A) S → Option V
  row_of v k m = value_in eq v k m.entries

-- a value is put in at the end of a map, if that has none at the key; otherwise the value comes back, and the entries stay
module _ {Q W S : Type 0} (eq : Q → Q → Bool) where
  abbrev pub PutsNew : Q → W → Result (Option W) W → IndexMap Q W S → IndexMap Q W S → Type 0
  PutsNew k x (Ok None) old new = (get eq old k ≡ None) × (new.entries ≡ old.entries ++ (k, x) ∷ [])
  PutsNew k x (Ok (Some y)) old new = (y ≡ x) × (is_some (get eq old k) ≡ true) × (new.entries ≡ old.entries)
  PutsNew k x (Err y) old new = (y ≡ x) × (new.entries ≡ old.entries)
