use Rattle.std.proofs.Common.{length, map}
use Rattle.std.specs.Arc.{arc_value}
use Rattle.std.specs.Vec.{vec_capacity}
use Rattle.task_share.specs.Listed.{shares_of, IsLinked, IsListed, IsKept}
use Rattle.task_share.proofs.idle.pop_idle.Given as goal

abbrev pub invariant-loop-key : goal.invariant-loop-key
invariant-loop-key g l = record {
  linked : IsLinked g.K.PartialEq.eq l.places.entries;
  listed : IsListed g.K.PartialEq.eq (shares_of l.places.entries) (map arc_value l.candidates.items) (vec_capacity l.candidates);
  kept : IsKept g.K.PartialEq.eq (shares_of l.fn.places.entries) (shares_of l.places.entries);
}

abbrev pub decreases-loop-key : goal.decreases-loop-key
decreases-loop-key g l = length l.candidates.items
