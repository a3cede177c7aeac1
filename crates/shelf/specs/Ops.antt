-- Operations as plain data, and when a list of them is sound.
use Rattle.std.specs.Prelude.{ℕ, ◌≤◌, List, [], ◌∷◌, ◌++◌, Bool, false, ◌&&◌, nat_eq, length, if◌then◌else◌, Option, Some, None}
use mathlib.Core.List.{IsPrefix}
use Rattle.std.specs.Arc.{arc_value}
use Rattle.dice_key.specs.Meaning.{Meaning}
use Rattle.dice_model.specs.Log.{IsCommit, pairs_of}
use Rattle.dice_model.specs.Eval.{HasValue}
use Rattle.shelf.specs.declared.op.ShelfOp.{ShelfOp}
use Rattle.shelf.specs.declared.op.ShelfOp.TheVariants as op
use Rattle.shelf.specs.declared.op.Plain.{Plain}
use Rattle.shelf.specs.declared.op.Plain.TheVariants as bare

module _ {K V : Type 0} where
  abbrev pub plain : ShelfOp K V → Plain K V
  plain (op.Commit changes) = bare.Commit (pairs_of (arc_value changes).items)
  plain (op.Row version key value) = bare.Row version (arc_value key) (arc_value value)

  -- the commits in a list of operations
  abbrev pub commits_in : List (Plain K V) → List (List (K × V))
  commits_in [] = []
  commits_in (bare.Commit changes ∷ ops) = changes ∷ commits_in ops
  commits_in (bare.Row version key value ∷ ops) = commits_in ops

  -- whether it is the row of that version and key
  abbrev pub is_row : (K → Bool) → ℕ → Plain K V → Bool
  is_row test v (bare.Commit changes) = false
  is_row test v (bare.Row version key value) = nat_eq v version && test key

  -- the value of a row
  abbrev pub value_of : Plain K V → Option V
  value_of (bare.Commit changes) = None
  value_of (bare.Row version key value) = Some value

  -- the value of the first row of that version and key, if there is one
  abbrev pub row_at : (K → Bool) → ℕ → List (Plain K V) → Option V
  row_at test v [] = None
  row_at test v (x ∷ xs) = if is_row test v x then value_of x else row_at test v xs

module _ {K V : Type 0} (eq : K → K → Bool) (m : Meaning K V) where
  -- What `append` asks of an operation, over the commits before it. A commit has the shape of one. A row's version is not above the number of these commits, and its value is the key's there.
  abbrev pub MayFollow : List (List (K × V)) → Plain K V → Type 0
  MayFollow C (bare.Commit changes) = IsCommit m changes
  MayFollow C (bare.Row version key value) = (version ≤ length C) × HasValue eq m C version key value

  -- each operation meets that over those before it
  abbrev pub SoundAfter : List (Plain K V) → List (Plain K V) → Type 0
  SoundAfter before [] = Unit {0}
  SoundAfter before (x ∷ xs) = MayFollow (commits_in before) x × SoundAfter (before ++ x ∷ []) xs

  abbrev pub IsSound : List (Plain K V) → Type 0
  IsSound xs = SoundAfter [] xs

  -- a beginning of a sound list is sound
  abbrev pub BeginningsAreSound : Type 0
  BeginningsAreSound = (xs ys : List (Plain K V)) → IsPrefix xs ys → IsSound ys → IsSound xs
