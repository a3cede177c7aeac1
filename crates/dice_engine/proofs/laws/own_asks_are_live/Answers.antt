use Rattle.dice_engine.proofs.Callers.{open_in_seen, live_in_seen}
use Rattle.dice_engine.proofs.laws.own_asks_are_live.Goals as goal

pub returns-clause-open : goal.returns-clause-open
returns-clause-open g c = open_in_seen g.U.Key.PartialEq.eq g.U.Universe.meaning

pub returns-clause-live : goal.returns-clause-live
returns-clause-live g c = live_in_seen g.U.Key.PartialEq.eq g.U.Universe.meaning
