use Rattle.journal.proofs.Worked.{is_lawful, is_unlawful}
use Rattle.journal.proofs.laws.worked_journal.Goals as goal

pub returns : goal.returns
returns g = record { lawful = is_lawful; no_cause = is_unlawful }
