use Rattle.dice_engine.proofs.Looking.{value_seen, decided_seen}
use Rattle.dice_engine.proofs.laws.looks_after_a_tell.Goals as goal

pub returns-clause-value : goal.returns-clause-value
returns-clause-value g c J seen v k x = value_seen g.U.Key.PartialEq.eq c.laws_of.ensures.keys g.U.Universe.meaning v k J seen x

pub returns-clause-decided : goal.returns-clause-decided
returns-clause-decided g c J seen v k = decided_seen g.U.Key.PartialEq.eq c.laws_of.ensures.keys g.U.Universe.meaning v k J seen
