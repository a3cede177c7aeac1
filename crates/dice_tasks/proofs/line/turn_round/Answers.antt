use Rattle.dice_tasks.proofs.LineLemmas.{in_order}
use Rattle.dice_tasks.proofs.line.turn_round.Goals as goal

pub pairs-init : goal.pairs-init
pairs-init g c = in_order c.args.ready c.args.shelf.now.keys _ c.requires
