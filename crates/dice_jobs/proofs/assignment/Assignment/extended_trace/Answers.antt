use Rattle.std.proofs.Common.{rules}
use Rattle.dice_jobs.proofs.assignment.Assignment.extended_trace.Goals as goal

pub returns-in-Some : goal.returns-in-Some
returns-in-Some g c = search rules
