use Rattle.std.proofs.Common.{rules}
use Rattle.dice_core.proofs.machine.Core.ready.Goals as goal

pub returns : goal.returns
returns g c = search rules
