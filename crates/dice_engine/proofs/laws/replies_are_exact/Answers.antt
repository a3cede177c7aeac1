use Rattle.dice_engine.proofs.Callers.{exact_value, exact_cycle}
use Rattle.dice_engine.proofs.laws.replies_are_exact.Goals as goal

pub returns-clause-value : goal.returns-clause-value
returns-clause-value g c = λ J v k ask left r h live valued. exact_value g.U.Key.PartialEq.eq g.U.Universe.meaning J v k ask left r h live valued

pub returns-clause-cycle : goal.returns-clause-cycle
returns-clause-cycle g c = λ J v k ask left r h live computed e. exact_cycle g.U.Key.PartialEq.eq g.U.Universe.meaning J v k ask left r h live computed e
