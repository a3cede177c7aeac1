use Rattle.dice_engine.proofs.Quieted.{closed_so, left_so}
use Rattle.dice_engine.proofs.settling.leaving_decides_nothing.Goals as goal

pub returns-clause-close : goal.returns-clause-close
returns-clause-close g c = closed_so g.U.Key.PartialEq.eq

pub returns-clause-leave : goal.returns-clause-leave
returns-clause-leave g c = left_so g.U.Key.PartialEq.eq
