use Rattle.std.proofs.Common.{rules}
use Rattle.dice_jobs.proofs.assignment.Assignment.is_same.Goals as goal

pub returns-then-are_same_batches : goal.returns-then-are_same_batches
returns-then-are_same_batches g c = search rules

pub returns-else-are_same_batches : goal.returns-else-are_same_batches
returns-else-are_same_batches g c = search rules
