use Rattle.journal.proofs.Lawful.{open_says, closes_open}
use Rattle.journal.proofs.Counts.{none_open, open_none}
use Rattle.journal.proofs.laws.journals_are_read.Goals as goal

pub returns : goal.returns
returns g c = record {
  opened = λ R i o e. open_says R i o e;
  none = λ R v h e. none_open v R h e;
  count = λ R v h e. open_none v R h e;
  closes = λ R l. closes_open g.U.Key.PartialEq.eq g.U.Universe.meaning R l;
}
