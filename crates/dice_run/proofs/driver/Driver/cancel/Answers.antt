use Rattle.std.proofs.Common.{rules}
use Rattle.dice_run.proofs.driver.Driver.cancel.Goals as goal

pub returns : goal.returns
returns g c = search rules
