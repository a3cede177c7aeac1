-- What the ends of a shelf know, and what the calls do to them.
use Rattle.std.specs.Prelude.{◌≡◌, ℕ, ◌+◌, ◌-◌, ◌^◌, List, [], Bool, true, false, min, Option, None, Some}
use mathlib.Core.List.{IsPrefix}
use Rattle.dice_key.specs.Meaning.{Meaning}
use Rattle.shelf.specs.declared.op.Plain.{Plain}
use Rattle.shelf.specs.Ops.{IsSound}

-- The writing end: all that was appended, and the beginning of it that is published.
pub record PenView (S : Type 0) : Type 0 where
  pub list : S
  pub published : S

-- no end at all
abbrev pub no_pen : {S : Type 0} → S → PenView S
no_pen s = record { list = s; published = s }

-- A reader: whether it has no place at a shelf, the list that it has seen or was told of last, and how often it was refused.
pub record ReaderView (K V : Type 0) : Type 0 where
  pub shut : Bool
  pub seen : List (Plain K V)
  pub refused : ℕ

module _ {K V : Type 0} where
  -- a reader without a place
  abbrev pub shut_reader : ℕ → ReaderView K V
  shut_reader n = record { shut = true; seen = []; refused = n }

  -- a reader that has a place
  abbrev pub reader_at : List (Plain K V) → ℕ → ReaderView K V
  reader_at seen n = record { shut = false; seen = seen; refused = n }

  -- a reader at the place of an end that has seen such a list, or without a place
  abbrev pub door_to : Option (List (Plain K V)) → ℕ → ReaderView K V
  door_to None n = shut_reader n
  door_to (Some seen) n = reader_at seen n

  -- it has seen nothing and was never refused
  abbrev pub IsNewReader : ReaderView K V → Type 0
  IsNewReader r = (r.seen ≡ []) × (r.refused ≡ 0)

  -- the place is not at the door, since the reader has it with it
  abbrev pub HasLeft : ReaderView K V → ReaderView K V → Type 0
  HasLeft old new = (old.shut ≡ false) × (new ≡ shut_reader old.refused)

  -- the reader once it was refused: the count stands still at its type's end
  abbrev pub after_refusal : ReaderView K V → ReaderView K V
  after_refusal r = record r { refused = min (r.refused + 1) (2 ^ 64 - 1) }

-- The reader looked: the list that it sees then begins with the one that it saw or was told of last, and is sound.
module _ {K V : Type 0} (eq : K → K → Bool) (m : Meaning K V) where
  abbrev pub Looked : ReaderView K V → ReaderView K V → Type 0
  Looked old new = IsPrefix old.seen new.seen × IsSound eq m new.seen × (new ≡ record old { seen = new.seen })

  -- what is seen after the list xs begins with it, and is sound
  abbrev pub GoesOn : List (Plain K V) → List (Plain K V) → Type 0
  GoesOn xs ys = IsPrefix xs ys × IsSound eq m ys
