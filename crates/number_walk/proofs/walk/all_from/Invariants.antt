use Rattle.std.proofs.Common.{◌≡◌, ◌≤◌, ◌-◌, ℕ, Some, length, slice_get}
use Rattle.lists.specs.Lists.{Has, AreDistinct}
use Rattle.number_walk.specs.Reach.{Reaches, IsFollowed}
use Rattle.number_walk.proofs.walk.all_from.Given as goal

abbrev pub invariant-loop-number : goal.invariant-loop-number
invariant-loop-number g l =
    record {
      begun : slice_get l.met.keys 0 ≡ Some l.start;
      distinct : AreDistinct l.met.keys;
      led : (n : ℕ) → Has l.met.keys n → Reaches (g.W.Waits.waits l.graph) l.start n;
      followed : IsFollowed (g.W.Waits.waits l.graph) l.met.keys l.next;
      within : l.next ≤ length l.met.keys;
    }

abbrev pub decreases-loop-number : goal.decreases-loop-number
decreases-loop-number g l = g.W.Waits.count l.graph - l.next
