use Rattle.dice_tasks.proofs.LineLemmas.{in_order}
use Rattle.dice_tasks.proofs.line.sink.Goals as goal

pub down-init : goal.down-init
down-init g c = (c.requires.some, in_order c.args.ready c.args.shelf.now.keys _ c.requires.laid)
