use Rattle.dice_session.proofs.Sole.{open_goes, open_is}
use Rattle.dice_session.proofs.client.open.Goals as goal

pub returns-clause-goes : goal.returns-clause-goes
returns-clause-goes g c = open_goes g.U.Key.PartialEq.eq g.U.Universe.meaning c.args.engine.now c.args.seat.now c.open.new.seat c.requires c.open.result c.open.ensures.ok c.open.ensures.err

pub returns-clause-open : goal.returns-clause-open
returns-clause-open g c = open_is g.U.Key.PartialEq.eq g.U.Universe.meaning c.args.engine.now c.args.seat.now c.open.new.seat c.requires c.open.result c.open.ensures.ok c.open.ensures.has
