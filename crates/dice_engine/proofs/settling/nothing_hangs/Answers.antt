use Rattle.dice_engine.proofs.Quieted.{settled}
use Rattle.dice_engine.proofs.settling.nothing_hangs.Goals as goal

pub returns : goal.returns
returns g c = λ J v k ask left r h live ready out. settled g.U.Key.PartialEq.eq g.U.Universe.meaning J v k ask left r h live ready out
