use Rattle.dice_engine.proofs.Quieted.{pending_exact}
use Rattle.dice_engine.proofs.settling.pending_is_exact.Goals as goal

pub returns : goal.returns
returns g c = λ r s u t live. pending_exact g.U.Key.PartialEq.eq g.U.Universe.meaning c.args.promise.now r s u c.laws_of.ensures.keys t live
