use Rattle.dice_key.specs.Lawful.{step_of}
use Rattle.dice_jobs.proofs.Replayed.{HasGone}
use Rattle.dice_jobs.proofs.job.begun.Given as goal

-- the run has gone through the batches so far
abbrev pub invariant-loop-at : goal.invariant-loop-at
invariant-loop-at g l = HasGone g.U.Universe.meaning l.assignment.name.key l.assignment.name.version l.assignment.answered l.at (g.U.Universe.running l.run) (step_of l.step)
