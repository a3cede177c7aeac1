use Rattle.std.proofs.Common.{rules}
use Rattle.dice_jobs.proofs.assignment.Assignment.extended.Goals as goal

pub returns : goal.returns
returns g c = search rules
