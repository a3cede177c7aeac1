-- What holds while a call works on one version that has an open transaction, with the graph's entries and the cells.
use Rattle.std.specs.Prelude.{◌≡◌, ◌<◌, ℕ, Bool, List, [], reverse}
use Rattle.dice_key.specs.Meaning.{Meaning}
use Rattle.task_share.specs.Asked.{IsDone}
use Rattle.task_share.specs.Seen.{Share, asked_of}
use Rattle.injected.specs.Seen.{Seen}
use Rattle.journal.specs.Events.{open_count}
use Rattle.versioned_graph.specs.Entries.{Stored}
use Rattle.core_laws.specs.Desk.{World}
use Rattle.dice_tasks.specs.Helds.{Held}
use Rattle.dice_tasks.specs.Hands.{DeskSeen, Working}
use Rattle.dice_tasks.specs.Endings.{AreTasked}
use Rattle.dice_tasks.specs.Entries.{EntriesStand}
use Rattle.dice_steps.specs.Cells.{CellsStand}

module _ {K V : Type 0} (eq : K → K → Bool) (m : Meaning K V) where
  -- the tasks of v are in hand, and all is as between calls: nobody is still to be told of an end; whoever is asked for has a task, and whoever
  -- is at work an asker; a transaction is open at v
  pub record AtHand (v : ℕ) (w : World K V) (owed : ℕ) (ps : List (K × Share K (Held K V))) (d : DeskSeen K V) (es : List (K × Stored K V)) (s : Seen K V) : Type 0 where
    pub working : Working eq m v [] w owed ps d
    pub told : d.ended ≡ []
    pub tasked : AreTasked eq ps
    pub done : IsDone (asked_of eq ps)
    pub opened : 0 < open_count (reverse d.events) v
    pub entries : EntriesStand eq m (reverse d.events) es
    pub cells : CellsStand eq (reverse d.events) s
