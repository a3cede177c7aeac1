use Rattle.dice_jobs.proofs.AlikeLemmas.{one_job, answered_longer}
use Rattle.dice_jobs.proofs.laws.true_jobs_are_one.Goals as goal

pub returns : goal.returns
returns g c =
    let eq = g.U.Key.PartialEq.eq in
    let m = g.U.Universe.meaning in
    record { one = λ C. one_job eq m C; longer = λ C. answered_longer eq m C }
