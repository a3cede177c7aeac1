use Rattle.dice_jobs.specs.Jobs.{stand_of}
use Rattle.dice_jobs.proofs.Ended.{run_ended}
use Rattle.dice_jobs.proofs.job.begin_run.Goals as goal

pub returns : goal.returns
returns g c =
    let a = c.args.assignment.now in
    run_ended g.U.Universe.meaning g.U.Value.PartialEq.eq g.U.Universe.running a _ _ c.requires.work c.in_ok-run.ensures.run (c.moved.ensures (stand_of a) c.in_ok-run.ensures.step)
