use Rattle.std.proofs.Common.{◌++◌, [], sym, subst}
use Rattle.dice_model.specs.Asks.{Goes}
use Rattle.dice_model.proofs.Finite.{goes_last}
use Rattle.dep_recorder.specs.Recordings.{answered_by}
use Rattle.dep_recorder.proofs.laws.recordings_go_with_runs.Goals as goal

pub returns : goal.returns
returns g c C v k r ks xs h a n z =
    let eq = g.U.Key.PartialEq.eq in
    let m = g.U.Universe.meaning in
    subst (λ o. Goes eq m C v k [] (r.answered ++ answered_by xs o)) (sym a) (goes_last eq m c.laws_of.ensures.lawful C v k [] r.answered (record { keys = ks; values = xs }) h n z)
