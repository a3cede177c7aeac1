use Rattle.std.specs.Prelude.{◌≡◌}
use Rattle.line_tests.proofs.jobs.jobs_that_are_left_end_with_the_line.Given as goal

abbrev pub invariant-loop-n : goal.invariant-loop-n
invariant-loop-n g l = l.putter.line ≡ l.line
