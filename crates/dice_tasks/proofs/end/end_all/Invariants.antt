use Rattle.std.proofs.Common.{◌≡◌, ◌⊎◌, ◌+◌, ◌*◌, ℕ, false, List, [], length}
use Rattle.std.specs.Arc.{arc_value}
use Rattle.task_share.specs.Asked.{Tasked}
use Rattle.task_share.specs.Seen.{asks}
use Rattle.core_laws.specs.Tasks.{Outcome}
use Rattle.core_laws.specs.Desk.{World}
use Rattle.dice_tasks.specs.Hands.{Working}
use Rattle.dice_tasks.specs.Endings.{Telling, EndsTasks, AreTasked, EndAbove, AreGiven, path_of, ends_so}
use Rattle.dice_tasks.proofs.end.end_all.Given as goal
use Rattle.lists.specs.Lists.{Has}

-- these tasks have ended, and those on the list are among them; nobody asks for one that is not on the list; for each an owner
-- of the path was given away; whatever held before, the telling goes on
abbrev pub invariant-askers : goal.invariant-askers
invariant-askers g l = record {
  ends : (es : List (g.row.U-Key.Denot × Outcome g.row.U-Key.Denot g.row.U-Value.Denot)) × EndsTasks g.U.Key.PartialEq.eq l.version (path_of l.fn.how) (arc_value l.key) es l.fn.tasks l.tasks l.fn.desk l.desk × ((q : g.row.U-Key.Denot) → Has l.desk.ended q → (o : Outcome g.row.U-Key.Denot g.row.U-Value.Denot) × Has es (q, o))
      × ((q : g.row.U-Key.Denot) (o : Outcome g.row.U-Key.Denot g.row.U-Value.Denot) → Has es (q, o) → Has l.desk.ended q ⊎ ((j : g.row.U-Key.Denot) → asks g.U.Key.PartialEq.eq l.tasks q (Tasked j) ≡ false))
      × Has es (arc_value l.key, ends_so (path_of l.fn.how))
      × EndAbove g.U.Key.PartialEq.eq es l.fn.tasks (arc_value l.key)
      × AreGiven (length es) l.fn.how l.rest;
  tasked : AreTasked g.U.Key.PartialEq.eq l.fn.tasks → AreTasked g.U.Key.PartialEq.eq l.tasks;
  kept : (w : World g.row.U-Key.Denot g.row.U-Value.Denot) (owed : ℕ) → Working g.U.Key.PartialEq.eq g.U.Universe.meaning l.version [] w owed l.fn.tasks l.fn.desk → Telling g.U.Key.PartialEq.eq g.U.Universe.meaning (path_of l.fn.how) l.version w owed l.tasks l.desk;
}

abbrev pub decreases-askers : goal.decreases-askers
decreases-askers g l = 2 * l.desk.live + length l.desk.ended
