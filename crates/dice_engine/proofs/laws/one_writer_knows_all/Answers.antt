use Rattle.dice_engine.proofs.Callers.{by_zero, log_of_one}
use Rattle.dice_engine.proofs.laws.one_writer_knows_all.Goals as goal

pub returns-clause-by : goal.returns-clause-by
returns-clause-by g c = by_zero

pub returns-clause-log : goal.returns-clause-log
returns-clause-log g c = log_of_one
