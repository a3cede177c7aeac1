use Rattle.dice_engine.specs.Seats.{IsSeatOf, IsWriter}
use Rattle.watcher.proofs.build.build.Given as goal

abbrev pub invariant-loop-number : goal.invariant-loop-number
invariant-loop-number g l = IsSeatOf l.engine l.seat × IsWriter l.seat
