use Rattle.dice_engine.specs.Seats.{IsSeatOf, IsWriter}
use Rattle.engine_tests.proofs.tiny.all_as_wanted.Given as goal

abbrev pub invariant-loop-changes : goal.invariant-loop-changes
invariant-loop-changes g l = IsSeatOf l.engine l.seat × IsWriter l.seat
