use Rattle.dice_engine.proofs.Deciding.{closed_once, decided_at_close}
use Rattle.dice_engine.proofs.laws.decided_when_closed.Goals as goal

pub returns-clause-once : goal.returns-clause-once
returns-clause-once g c = closed_once g.U.Key.PartialEq.eq g.U.Universe.meaning

pub returns-clause-close : goal.returns-clause-close
returns-clause-close g c = decided_at_close g.U.Key.PartialEq.eq c.laws_of.ensures.keys g.U.Universe.meaning
