use Rattle.dice_tasks.proofs.LineLemmas.{in_order}
use Rattle.dice_tasks.proofs.line.Line.line_up.Goals as goal

pub returns-else-self-ready : goal.returns-else-self-ready
returns-else-self-ready g c = in_order c.args.ready c.args.shelf.now.keys _ c.requires
