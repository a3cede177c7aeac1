use Rattle.std.proofs.Common.{◌≤◌, ℕ, List, length}
use Rattle.task_share.specs.Seen.{KeepsTasks}
use Rattle.journal.specs.declared.event.Told.{Told}
use Rattle.dice_core.specs.Sessions.{owed, Closing}
use Rattle.dice_core.specs.Closings.{ArePromised}
use Rattle.dice_core.proofs.CloseLemmas.{TakesSome}
use Rattle.dice_core.proofs.close.take_promises.Given as goal

abbrev pub invariant-promises : goal.invariant-promises
invariant-promises g l = record {
  all : (R : List (Told g.row.U-Key.Denot g.row.U-Value.Denot)) (by t : ℕ) → Closing R by t l.initial.session.asks l.initial.sessions → ArePromised g.U.Key.PartialEq.eq R l.initial.tasks → TakesSome g.U.Key.PartialEq.eq R by t l.initial.session.asks l.session.asks l.initial.tasks l.tasks l.sessions;
  tasks : KeepsTasks g.U.Key.PartialEq.eq l.initial.tasks l.tasks;
  fewer : owed l.sessions ≤ owed l.initial.sessions;
}

abbrev pub decreases-promises : goal.decreases-promises
decreases-promises g l = length l.session.asks
