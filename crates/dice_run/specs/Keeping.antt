-- What a run leaves.
use Rattle.std.specs.Prelude.{◌≡◌, List, Option, Some}
use Rattle.script.specs.declared.line.Line.{Line}
use Rattle.script_trace.specs.Events.{IsJournalOf}
use Rattle.dice_run.specs.Seats.{IsOurs}
use Rattle.dice_run.specs.declared.kept.Kept.{Kept}

-- an engine, and the driver's seat at it, whose seen journal is one of these lines
pub record IsKeptWith (ls : List Line) (k : Option Kept) : Type 0 where
  pub kept : Kept
  pub is : k ≡ Some kept
  pub ours : IsOurs kept.engine kept.seat
  pub journal : IsJournalOf ls kept.seat.seen
