-- The events of a journal, and its lines.
use Rattle.std.specs.Prelude.{◌≡◌, ℕ, List, map, drop}
use Rattle.std.specs.List.{AllZip}
use Rattle.dice_key.specs.Meaning.{Meaning}
use Rattle.journal.specs.declared.event.Told.{Told}
use Rattle.journal.specs.declared.event.Event.{Event}
use Rattle.journal.specs.Tell.{told}
use Rattle.journal.specs.Texts.{IsLine}

module _ {K V : Type 0} (m : Meaning K V) where
  -- the texts are the lines of the journal's events: one for each event, in order
  abbrev pub AreLines : List (Told K V) → List (List ℕ) → Type 0
  AreLines J texts = AllZip (IsLine m) J texts

-- these are the journal's events from this index on
abbrev pub AreEventsFrom : {K V : Type 0} → ℕ → List (Told K V) → List (Event K V) → Type 0
AreEventsFrom start J es = map told es ≡ drop start J
