use Rattle.dice_run.proofs.Turning.{turn_rests}
use Rattle.dice_run.proofs.client.log.Goals as goal

pub returns-clause-goes : goal.returns-clause-goes
returns-clause-goes g c = turn_rests c.args.engine.now c.args.seat.now c.log.new.seat c.requires c.log.ensures.turn
