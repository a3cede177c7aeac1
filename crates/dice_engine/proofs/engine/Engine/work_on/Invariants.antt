use Rattle.dice_engine.specs.Seats.{IsSeatOf}
use Rattle.dice_engine.proofs.engine.Engine.work_on.Given as goal

abbrev pub invariant-loop : goal.invariant-loop
invariant-loop g l = IsSeatOf l.self l.seat
