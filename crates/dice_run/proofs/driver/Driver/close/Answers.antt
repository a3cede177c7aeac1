use Rattle.std.proofs.Common.{rules}
use Rattle.dice_run.proofs.driver.Driver.close.Goals as goal

pub returns : goal.returns
returns g c = search rules
