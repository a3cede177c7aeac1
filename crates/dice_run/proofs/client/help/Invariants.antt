use Rattle.std.proofs.Common.{[]}
use Rattle.dice_run.specs.Seats.{Goes}
use Rattle.dice_run.proofs.client.help.Given as goal

abbrev pub invariant-loop : goal.invariant-loop
invariant-loop g l = Goes l.engine l.initial.seat l.seat []
