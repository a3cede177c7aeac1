use Rattle.std.specs.Arc.{arc_value}
use Rattle.dice_run.proofs.Turning.{either_ours, asks_if}
use Rattle.dice_run.proofs.client.ask.Goals as goal

pub returns-clause-ours : goal.returns-clause-ours
returns-clause-ours g c = either_ours c.args.engine.now c.args.seat.now c.ask.new.seat c.requires.ours c.ask.result _ _ c.ask.ensures.ok c.ask.ensures.err

pub returns-clause-asks : goal.returns-clause-asks
returns-clause-asks g c =
    let t = c.args.transaction.now in
    asks_if c.args.engine.now c.args.seat.now c.ask.new.seat t.opened t.version (arc_value c.args.key) c.requires.ours c.ask.result c.ask.ensures.ok c.ask.ensures.named c.ask.ensures.has
