use Rattle.std.specs.Prelude.{◌≤◌}
use Rattle.watcher.proofs.looks.looks_of.Given as goal

abbrev pub invariant-loop : goal.invariant-loop
invariant-loop g l = l.looks.found ≤ l.looks.made
