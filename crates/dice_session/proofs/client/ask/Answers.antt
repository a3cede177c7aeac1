use Rattle.std.specs.Arc.{arc_value}
use Rattle.dice_session.proofs.Sole.{ask_goes, ask_is}
use Rattle.dice_session.proofs.client.ask.Goals as goal

pub returns-clause-asks : goal.returns-clause-asks
returns-clause-asks g c =
    let t = c.args.transaction.now in
    ask_goes g.U.Key.PartialEq.eq g.U.Universe.meaning c.args.engine.now c.args.seat.now c.ask.new.seat c.requires.sole t.opened t.version (arc_value c.args.key) c.ask.result c.requires.open c.ask.ensures.ok c.ask.ensures.err

pub returns-clause-asked : goal.returns-clause-asked
returns-clause-asked g c =
    let t = c.args.transaction.now in
    ask_is g.U.Key.PartialEq.eq g.U.Universe.meaning c.args.engine.now c.args.seat.now c.ask.new.seat c.requires.sole t.opened t.version (arc_value c.args.key) c.ask.result c.ask.ensures.named c.ask.ensures.has
