use Rattle.cycle_guard.proofs.CycleLemmas.{more_waits, fewer_asks}
use Rattle.cycle_guard.proofs.laws.no_cycle_stays.Goals as goal

pub returns-clause-more : goal.returns-clause-more
returns-clause-more g c = more_waits g.K.PartialEq.eq c.requires

pub returns-clause-fewer : goal.returns-clause-fewer
returns-clause-fewer g c = fewer_asks
