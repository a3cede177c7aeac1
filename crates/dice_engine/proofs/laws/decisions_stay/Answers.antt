use Rattle.dice_engine.proofs.Deciding.{decided_longer, decided_later}
use Rattle.dice_engine.proofs.laws.decisions_stay.Goals as goal

pub returns-clause-longer : goal.returns-clause-longer
returns-clause-longer g c = decided_longer g.U.Key.PartialEq.eq c.laws_of.ensures.keys g.U.Universe.meaning

pub returns-clause-seat : goal.returns-clause-seat
returns-clause-seat g c = decided_later g.U.Key.PartialEq.eq c.laws_of.ensures.keys g.U.Universe.meaning
