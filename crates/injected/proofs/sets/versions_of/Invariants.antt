use Rattle.std.proofs.Common.{drop}
use Rattle.injected.specs.Numbers.{tests}
use Rattle.injected.proofs.Walks.{Walked}
use Rattle.injected.proofs.sets.versions_of.Given as goal

abbrev pub invariant-loop-version : goal.invariant-loop-version
invariant-loop-version l = Walked l.first (tests l.number l.sets) l.ranges l.from l.belongs (tests l.number (drop l.version-index l.sets))
