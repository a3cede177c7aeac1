use Rattle.std.specs.Prelude.{◌≡◌}
use Rattle.line_tests.proofs.jobs.put_all.Given as goal

abbrev pub invariant-loop-n : goal.invariant-loop-n
invariant-loop-n g l = l.putter.line ≡ l.line
