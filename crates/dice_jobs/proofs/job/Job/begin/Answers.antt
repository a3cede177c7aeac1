use Rattle.std.proofs.Common.{◌∙◌}
use Rattle.dice_jobs.proofs.Readied.{begins_ready}
use Rattle.dice_jobs.proofs.job.Job.begin.Goals as goal

pub invariant_of-result : goal.invariant_of-result
invariant_of-result g c =
    let e = c.in_ok-work.ensures in
    begins_ready g.U.Universe.meaning g.U.Value.PartialEq.eq g.U.Universe.running _ _ _ c.args.name (e.assignment ∙ c.begins.ensures) e.course e.stand c.requires
