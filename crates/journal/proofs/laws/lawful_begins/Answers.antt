use Rattle.journal.proofs.Lawful.{lawful_front}
use Rattle.journal.proofs.laws.lawful_begins.Goals as goal

pub returns : goal.returns
returns g c J D l = lawful_front g.U.Key.PartialEq.eq g.U.Universe.meaning J D l
