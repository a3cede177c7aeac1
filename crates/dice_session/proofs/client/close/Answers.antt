use Rattle.dice_session.proofs.Sole.{goes_close}
use Rattle.dice_session.proofs.client.close.Goals as goal

pub returns : goal.returns
returns g c = goes_close g.U.Key.PartialEq.eq g.U.Universe.meaning c.args.engine.now c.args.seat.now c.close.new.seat c.requires.sole c.args.transaction.opened c.args.transaction.version c.close.ensures.turn
