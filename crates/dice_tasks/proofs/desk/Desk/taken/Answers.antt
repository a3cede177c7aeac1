use Rattle.std.proofs.Common.{refl}
use Rattle.dice_tasks.proofs.Desks.{taken_is}
use Rattle.dice_tasks.proofs.desk.Desk.taken.Goals as goal

pub returns : goal.returns
returns g c =
    taken_is c.self.inside.ready c.self.inside.at_hand.keys _ c.args.self.now c.self.view_is c.self.invariant.0 refl refl c.requires
