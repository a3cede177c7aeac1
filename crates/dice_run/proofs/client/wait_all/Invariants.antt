use Rattle.std.proofs.Common.{[], drop}
use Rattle.dice_run.specs.Seats.{Goes}
use Rattle.dice_run.proofs.Polling.{DecidedBut}
use Rattle.dice_run.proofs.client.wait_all.Given as goal

-- the keys were decided, but for those of the promises that are left
abbrev pub invariant-loop-promise : goal.invariant-loop-promise
invariant-loop-promise g l = Goes l.engine l.initial.seat l.seat [] × DecidedBut l.seat.seen (drop l.promise-index l.promises) l.promises
