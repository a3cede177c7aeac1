use Rattle.std.proofs.Common.{rules}
use Rattle.dice_tasks.proofs.desk.events_wanted.Goals as goal

pub returns : goal.returns
returns c = search rules
