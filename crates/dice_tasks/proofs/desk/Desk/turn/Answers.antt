use Rattle.std.proofs.Common.{refl}
use Rattle.dice_tasks.proofs.LineLemmas.{reorders_none}
use Rattle.dice_tasks.proofs.desk.Desk.turn.Goals as goal

pub returns-else-self-gt0 : goal.returns-else-self-gt0
returns-else-self-gt0 g c = reorders_none c.self.inside.ready c.self.inside.at_hand.keys _ c.args.self.now c.self.view_is c.self.invariant.0 refl
