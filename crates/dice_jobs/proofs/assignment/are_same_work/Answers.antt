use Rattle.std.proofs.Common.{rules}
use Rattle.dice_jobs.proofs.assignment.are_same_work.Goals as goal

pub returns-in_default : goal.returns-in_default
returns-in_default g c = search rules

pub returns-then-eq : goal.returns-then-eq
returns-then-eq g c = search rules
