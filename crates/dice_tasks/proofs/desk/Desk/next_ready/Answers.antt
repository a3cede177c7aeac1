use Rattle.std.proofs.Common.{refl, arith}
use Rattle.dice_tasks.proofs.Desks.{next_is}
use Rattle.dice_tasks.proofs.desk.Desk.next_ready.Goals as goal

pub returns-clause-some : goal.returns-clause-some
returns-clause-some g c =
    next_is c.self.inside.ready c.self.inside.at_hand.keys _ c.args.self.now c.self.view_is refl c.get_index.result c.get_index.ensures.key (omega arith)
