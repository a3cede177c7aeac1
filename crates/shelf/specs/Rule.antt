-- The rule of the shelf, which holds between any two steps: the published list is sound, and what an end has seen or was told last is a beginning of it.
use Rattle.std.specs.Prelude.{◌≡◌, Bool, ℕ, List, [], ◌∷◌, ◌++◌}
use mathlib.Core.List.{IsPrefix}
use mathlib.Core.Option as core
use lib.ListN.{get_elem?}
use Rattle.dice_key.specs.Meaning.{Meaning}
use Rattle.shelf.specs.declared.op.ShelfOp.{ShelfOp}
use Rattle.shelf.specs.declared.op.Plain.{Plain}
use Rattle.shelf.specs.declared.rule.Seen.{Seen}
use Rattle.shelf.specs.Ops.{plain, IsSound}

module _ {K V : Type 0} where
  -- a list with one more operation
  abbrev pub with_op : List (Plain K V) → ShelfOp K V → List (Plain K V)
  with_op xs x = xs ++ plain x ∷ []

  abbrev pub newcomer : Seen K V
  newcomer = record { seen = [] }

  -- an end that was told what another has seen
  abbrev pub informed : Seen K V → Seen K V → Seen K V
  informed v w = w

module _ {K V : Type 0} (eq : K → K → Bool) (m : Meaning K V) where
  abbrev pub Shelved : List (Plain K V) → List (Seen K V) → Type 0
  Shelved s views = IsSound eq m s × ((id : ℕ) (v : Seen K V) → get_elem? views id ≡ core.some v → IsPrefix v.seen s)

  -- An end sees what is then published: it begins with what this end saw before, and is sound.
  abbrev pub Saw : Seen K V → List (Plain K V) → List (Plain K V) → Seen K V → Type 0
  Saw v s t w = (w.seen ≡ t) × IsPrefix v.seen w.seen × IsSound eq m w.seen
