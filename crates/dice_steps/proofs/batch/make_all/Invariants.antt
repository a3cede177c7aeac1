use Rattle.std.proofs.Common.{ℕ, List, length}
use Rattle.task_share.specs.Seen.{Share}
use Rattle.versioned_graph.specs.Entries.{Stored}
use Rattle.core_laws.specs.Desk.{World}
use Rattle.dice_tasks.specs.Helds.{Held}
use Rattle.dice_tasks.specs.Hands.{DeskSeen}
use Rattle.dice_steps.specs.Batches.{AreMakable, HasRoomToMake, MakesOn, MakesParted, MakesParts}
use Rattle.dice_steps.proofs.batch.make_all.Given as goal

-- whatever held before, these are still to be made; and what their makes do is done of all
abbrev pub invariant-parts : goal.invariant-parts
invariant-parts g l = record {
  kept : (W : List g.row.U-Key.Denot) (w : World g.row.U-Key.Denot g.row.U-Value.Denot) (owed : ℕ) → MakesOn g.U.Key.PartialEq.eq g.U.Universe.meaning l.version W w owed l.fn.parts.items l.fn.tasks l.fn.desk l.fn.graph
      → MakesOn g.U.Key.PartialEq.eq g.U.Universe.meaning l.version W w owed l.rest.items l.tasks l.desk l.graph;
  room : HasRoomToMake g.U.Key.PartialEq.eq l.rest.items l.tasks l.desk;
  makes : (qs : List (g.row.U-Key.Denot × Share g.row.U-Key.Denot (Held g.row.U-Key.Denot g.row.U-Value.Denot))) (e : DeskSeen g.row.U-Key.Denot g.row.U-Value.Denot) → MakesParts g.U.Key.PartialEq.eq l.rest.items l.version l.tasks l.desk qs e
      → MakesParts g.U.Key.PartialEq.eq l.fn.parts.items l.version l.fn.tasks l.fn.desk qs e;
  makable : (born : ℕ) → AreMakable g.U.Key.PartialEq.eq g.U.Universe.meaning l.version born l.fn.parts.items l.fn.tasks l.fn.graph → AreMakable g.U.Key.PartialEq.eq g.U.Universe.meaning l.version born l.rest.items l.tasks l.graph;
  looked : (born : ℕ) → AreMakable g.U.Key.PartialEq.eq g.U.Universe.meaning l.version born l.fn.parts.items l.fn.tasks l.fn.graph → (qs : List (g.row.U-Key.Denot × Share g.row.U-Key.Denot (Held g.row.U-Key.Denot g.row.U-Value.Denot))) (e : DeskSeen g.row.U-Key.Denot g.row.U-Value.Denot) (gs : List (g.row.U-Key.Denot × Stored g.row.U-Key.Denot g.row.U-Value.Denot))
      → MakesParted g.U.Key.PartialEq.eq g.U.Universe.meaning l.version born l.rest.items l.tasks l.desk l.graph qs e gs → MakesParted g.U.Key.PartialEq.eq g.U.Universe.meaning l.version born l.fn.parts.items l.fn.tasks l.fn.desk l.fn.graph qs e gs;
}

abbrev pub decreases-parts : goal.decreases-parts
decreases-parts g l = length l.rest.items
