use Rattle.dice_run.proofs.Turning.{turn_closes}
use Rattle.dice_run.proofs.client.close.Goals as goal

pub returns : goal.returns
returns g c = turn_closes c.args.engine.now c.args.seat.now c.close.new.seat c.args.transaction.opened c.args.transaction.version c.requires.ours c.close.ensures.turn
