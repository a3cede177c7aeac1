use Rattle.number_walk.proofs.AllLemmas.{NotedSoFar}
use Rattle.number_walk.proofs.walk.note_all.Given as goal

abbrev pub invariant-loop-awaited : goal.invariant-loop-awaited
invariant-loop-awaited g l = NotedSoFar l.awaited-items l.fn.met.keys l.met.keys l.awaited-index
