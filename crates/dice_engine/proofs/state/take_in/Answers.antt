use Rattle.std.proofs.Common.{rules}
use Rattle.dice_engine.proofs.state.take_in.Goals as goal

pub returns-in-Ok-clause-home : goal.returns-in-Ok-clause-home
returns-in-Ok-clause-home g c = search rules

pub returns-in-Err-clause-works : goal.returns-in-Err-clause-works
returns-in-Err-clause-works g c = search rules

pub returns-in-Err-clause-home : goal.returns-in-Err-clause-home
returns-in-Err-clause-home g c = search rules
