use Rattle.dice_tasks.proofs.LineLemmas.{in_order}
use Rattle.dice_tasks.proofs.line.lay_heap.Goals as goal

pub each-init : goal.each-init
each-init g c = in_order c.args.ready c.args.shelf.now.keys _ c.requires
