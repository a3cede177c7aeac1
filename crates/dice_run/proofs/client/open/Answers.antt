use Rattle.dice_run.proofs.Turning.{either_ours, opens_if}
use Rattle.dice_run.proofs.client.open.Goals as goal

pub returns-clause-ours : goal.returns-clause-ours
returns-clause-ours g c = either_ours c.args.engine.now c.args.seat.now c.open.new.seat c.requires c.open.result _ _ c.open.ensures.ok c.open.ensures.err

pub returns-clause-opens : goal.returns-clause-opens
returns-clause-opens g c = opens_if c.args.engine.now c.args.seat.now c.open.new.seat c.requires c.open.result c.open.ensures.ok c.open.ensures.has
