use Rattle.std.proofs.Common.{refl}
use Rattle.std.specs.Arc.{arc_value}
use Rattle.dice_tasks.proofs.Desks.{index_is, index_is_none}
use Rattle.dice_tasks.proofs.desk.Desk.index_of.Goals as goal

pub returns-clause-some : goal.returns-clause-some
returns-clause-some g c = index_is c.self.inside.ready c.self.inside.at_hand.keys _ c.args.self.now c.self.view_is refl refl (c.args.version, arc_value c.args.key.now) c.index_of.result c.index_of.ensures.some

pub returns-clause-none : goal.returns-clause-none
returns-clause-none g c = index_is_none c.self.inside.ready c.self.inside.at_hand.keys _ c.args.self.now c.self.view_is refl refl (c.args.version, arc_value c.args.key.now) c.index_of.result c.index_of.ensures.none
