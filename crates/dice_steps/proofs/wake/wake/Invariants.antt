use Rattle.std.proofs.Common.{◌≡◌, ◌≤◌, ◌∷◌, ◌++◌, ℕ, List, length, reverse, Some}
use Rattle.std.specs.Arc.{arc_value}
use Rattle.task_share.specs.Numbers.{key_at}
use Rattle.task_share.specs.Seen.{ask_count}
use Rattle.core_laws.specs.Desk.{World}
use Rattle.dice_tasks.specs.Endings.{AreTasked}
use Rattle.dice_tasks.specs.Hands.{Working}
use Rattle.dice_tasks.specs.Waitings.{Wakes, MayWake, WaitsOn}
use Rattle.dice_steps.specs.Wokens.{WakesSo}
use Rattle.dice_steps.proofs.wake.wake.Given as goal

-- whatever held before, the call goes on, and these are still to be woken
abbrev pub invariant-ready : goal.invariant-ready
invariant-ready g l = record {
  kept : (v : ℕ) (W : List g.row.U-Key.Denot) (w : World g.row.U-Key.Denot g.row.U-Value.Denot) (owed : ℕ) → Working g.U.Key.PartialEq.eq g.U.Universe.meaning v (arc_value l.key ∷ W) w owed l.fn.tasks l.fn.desk → MayWake g.U.Key.PartialEq.eq g.U.Universe.meaning (reverse l.fn.desk.events) v (arc_value l.key) l.fn.woken.items l.fn.tasks
      → Working g.U.Key.PartialEq.eq g.U.Universe.meaning v (arc_value l.key ∷ W) w owed l.tasks l.desk × MayWake g.U.Key.PartialEq.eq g.U.Universe.meaning (reverse l.desk.events) v (arc_value l.key) l.rest.items l.tasks;
  room : length l.rest.items ≤ l.desk.ready_room;
  events : l.desk.events ≡ l.fn.desk.events;
  woken : (ys : List (Wakes g.row.U-Key.Denot g.row.U-Value.Denot)) × (l.fn.woken.items ≡ l.rest.items ++ ys) × WakesSo g.U.Key.PartialEq.eq (arc_value l.key) ys l.fn.tasks l.tasks l.fn.desk l.desk;
  tasked : AreTasked g.U.Key.PartialEq.eq l.fn.tasks → AreTasked g.U.Key.PartialEq.eq l.tasks;
  named : key_at l.tasks l.number ≡ Some (arc_value l.key);
}

abbrev pub decreases-ready : goal.decreases-ready
decreases-ready g l = length l.rest.items

-- and then whoever still asks waits on
abbrev pub invariant-others : goal.invariant-others
invariant-others g l = record {
  kept : (v : ℕ) (W : List g.row.U-Key.Denot) (w : World g.row.U-Key.Denot g.row.U-Value.Denot) (owed : ℕ) → Working g.U.Key.PartialEq.eq g.U.Universe.meaning v (arc_value l.key ∷ W) w owed l.fn.tasks l.fn.desk → MayWake g.U.Key.PartialEq.eq g.U.Universe.meaning (reverse l.fn.desk.events) v (arc_value l.key) l.fn.woken.items l.fn.tasks
      → Working g.U.Key.PartialEq.eq g.U.Universe.meaning v (arc_value l.key ∷ W) w owed l.tasks l.desk × WaitsOn g.U.Key.PartialEq.eq (arc_value l.key) l.tasks;
  woken : WakesSo g.U.Key.PartialEq.eq (arc_value l.key) l.fn.woken.items l.fn.tasks l.tasks l.fn.desk l.desk;
  tasked : AreTasked g.U.Key.PartialEq.eq l.fn.tasks → AreTasked g.U.Key.PartialEq.eq l.tasks;
  named : key_at l.tasks l.number ≡ Some (arc_value l.key);
}

abbrev pub decreases-others : goal.decreases-others
decreases-others g l = ask_count l.tasks
