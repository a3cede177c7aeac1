use Rattle.turnstile.specs.Seats.{IsSeatOf, IsWriter}
use Rattle.engine_tests.proofs.turns.add_all.Given as goal

abbrev pub invariant-loop-turn : goal.invariant-loop-turn
invariant-loop-turn g l = IsSeatOf l.turnstile l.seat × IsWriter l.seat
