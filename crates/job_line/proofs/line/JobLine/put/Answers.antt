use Rattle.job_line.proofs.Keeps.{pushes}
use Rattle.job_line.proofs.line.JobLine.put.Goals as goal

pub push_as-requires-clause-rule : goal.push_as-requires-clause-rule
push_as-requires-clause-rule g c = pushes _ _ _ c.putter.invariant.2
