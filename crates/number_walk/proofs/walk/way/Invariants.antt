use Rattle.std.proofs.Common.{◌≡◌, ◌≤◌, ◌-◌, Some, length, slice_get}
use Rattle.number_walk.specs.Reach.{IsTrail, IsFollowed}
use Rattle.number_walk.proofs.walk.way.Given as goal

abbrev pub invariant-loop-number : goal.invariant-loop-number
invariant-loop-number g l =
    record {
      trail : IsTrail (g.W.Waits.waits l.graph) l.goal l.trail.met.keys l.trail.parents.items;
      begun : slice_get l.trail.met.keys 0 ≡ Some l.start;
      followed : IsFollowed (g.W.Waits.waits l.graph) l.trail.met.keys l.head;
      within : l.head ≤ length l.trail.met.keys;
    }

abbrev pub decreases-loop-number : goal.decreases-loop-number
decreases-loop-number g l = g.W.Waits.count l.graph - l.head
