use Rattle.std.proofs.Common.{◌≡◌, ℕ, List, reverse, Some}
use Rattle.journal.specs.Events.{ended_at}
use Rattle.core_laws.specs.Desk.{World}
use Rattle.dice_tasks.specs.Hands.{Cleaning}
use Rattle.dice_tasks.specs.Endings.{DropsTasks, AreTasked}
use Rattle.dice_tasks.proofs.end.cascade.Given as goal

abbrev pub invariant-drops : goal.invariant-drops
invariant-drops g l = record {
  dropped : (ks : List g.row.U-Key.Denot) × DropsTasks g.U.Key.PartialEq.eq l.version ks l.initial.tasks l.tasks l.initial.desk l.desk;
  after : ended_at (reverse l.desk.events) ≡ Some l.version;
  tasked : AreTasked g.U.Key.PartialEq.eq l.initial.tasks → AreTasked g.U.Key.PartialEq.eq l.tasks;
  kept : (w : World g.row.U-Key.Denot g.row.U-Value.Denot) (owed : ℕ) → Cleaning g.U.Key.PartialEq.eq g.U.Universe.meaning l.version w owed l.initial.tasks l.initial.desk → Cleaning g.U.Key.PartialEq.eq g.U.Universe.meaning l.version w owed l.tasks l.desk;
}

abbrev pub decreases-drops : goal.decreases-drops
decreases-drops g l = l.desk.live
