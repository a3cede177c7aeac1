use Rattle.std.proofs.Common.{rules}
use Rattle.dice_run.proofs.driver.Driver.commit.Goals as goal

pub returns-clause-seat : goal.returns-clause-seat
returns-clause-seat g c = search rules

pub returns-clause-gathered : goal.returns-clause-gathered
returns-clause-gathered g c = search rules
