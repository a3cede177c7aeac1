use Rattle.std.specs.Arc.{arc_value}
use Rattle.dice_session.proofs.Sole.{asked_own, asked_stays}
use Rattle.dice_session.proofs.client.compute_in.Goals as goal

pub leave-requires-clause-asked : goal.leave-requires-clause-asked
leave-requires-clause-asked g c κs within =
    let t = c.args.transaction.now in
    let p = c.in_ok-promise.promise in
    asked_stays c.args.engine.now c.ask.new.seat c.wait.new.seat t.opened t.version (arc_value p.key) p c.wait.ensures.asks
    (asked_own c.ask.new.seat t.opened t.version (arc_value c.args.key) p c.in_ok-promise.ensures.asked)
