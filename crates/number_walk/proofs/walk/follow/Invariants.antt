use Rattle.std.proofs.Common.{◌≡◌, ◌<◌, ℕ, Some, slice_get}
use Rattle.lists.specs.Lists.{Has}
use Rattle.number_walk.specs.Reach.{IsTrail, Grows}
use Rattle.number_walk.proofs.walk.follow.Given as goal

abbrev pub invariant-loop-wait : goal.invariant-loop-wait
invariant-loop-wait g l =
    record {
      trail : IsTrail (g.W.Waits.waits l.graph) l.goal l.trail.met.keys l.trail.parents.items;
      grows : Grows l.fn.trail.met.keys l.trail.met.keys;
      done : (j m : ℕ) → j < l.wait-index → slice_get l.wait-items j ≡ Some m → Has l.trail.met.keys m;
    }
