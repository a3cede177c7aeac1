use Rattle.number_walk.specs.Reach.{IsBack}
use Rattle.number_walk.proofs.walk.way_to.Given as goal

abbrev pub invariant-loop-at : goal.invariant-loop-at
invariant-loop-at g l = IsBack (g.W.Waits.waits l.graph) l.met l.goal l.at l.way.items

abbrev pub decreases-loop-at : goal.decreases-loop-at
decreases-loop-at g l = l.at
