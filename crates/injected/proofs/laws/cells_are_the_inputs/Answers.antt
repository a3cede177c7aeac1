use Rattle.injected.proofs.LogLemmas.{log_more, log_inputs, log_newest}
use Rattle.injected.proofs.laws.cells_are_the_inputs.Goals as goal

pub returns-clause-commit : goal.returns-clause-commit
returns-clause-commit g c = log_more g.U.Key.PartialEq.eq

pub returns-clause-inputs : goal.returns-clause-inputs
returns-clause-inputs g c = log_inputs g.U.Key.PartialEq.eq g.U.Universe.meaning

pub returns-clause-newest : goal.returns-clause-newest
returns-clause-newest g c = log_newest g.U.Key.PartialEq.eq g.U.Universe.meaning
