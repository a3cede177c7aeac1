use Rattle.std.proofs.Common.{◌≡◌, Some, length, map, slice_get}
use Rattle.std.specs.Arc.{arc_value}
use Rattle.std.specs.Map.{values_of}
use Rattle.std.specs.Vec.{vec_capacity}
use Rattle.task_share.specs.Listed.{shares_of, names_of, AreNumbered, IsLinked, IsListed, Withdrawing}
use Rattle.task_share.proofs.idle.withdraw.Given as goal

abbrev pub invariant-loop-at : goal.invariant-loop-at
invariant-loop-at g l = record {
  linked : IsLinked g.K.PartialEq.eq l.places.entries;
  names : names_of l.places.entries ≡ names_of l.fn.places.entries;
  numbered : AreNumbered (names_of l.fn.places.entries) l.rest.entries;
  listed : IsListed g.K.PartialEq.eq (shares_of l.places.entries) (map arc_value l.candidates.items) (vec_capacity l.candidates);
  gone : (k : g.row.K.Denot) → slice_get (names_of l.fn.places.entries) l.asker ≡ Some k → Withdrawing g.K.PartialEq.eq k (map arc_value (values_of l.fn.waits.entries)) (map arc_value (values_of l.rest.entries)) (shares_of l.fn.places.entries) (shares_of l.places.entries);
}

abbrev pub decreases-loop-at : goal.decreases-loop-at
decreases-loop-at g l = length l.rest.entries
