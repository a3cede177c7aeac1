use Rattle.dice_tasks.proofs.LineLemmas.{in_order}
use Rattle.dice_tasks.proofs.line.rise.Goals as goal

pub up-init : goal.up-init
up-init g c = (c.requires.last, in_order c.args.ready c.args.shelf.now.keys _ c.requires.laid)
