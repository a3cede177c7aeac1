use Rattle.std.proofs.Common.{sym, subst}
use Rattle.std.specs.Arc.{arc_value}
use Rattle.std.specs.List.{AllZip}
use Rattle.dice_engine.specs.Turns.{log_of}
use Rattle.dice_session.specs.Session.{IsFound}
use Rattle.dice_session.proofs.Sole.{asks_asks, asked_stays, asked_at}
use Rattle.dice_session.proofs.Zipped.{zipped_step}
use Rattle.dice_session.proofs.client.wait_all.Goals as goal

pub wait-requires-clause-asked : goal.wait-requires-clause-asked
wait-requires-clause-asked g c κs within =
    let t = c.args.transaction.now in
    let p = c.promise-item.result in
    asked_stays c.args.engine.now c.args.seat.now c.loop-promise.seat t.opened t.version (arc_value p.key) p c.loop-promise.invariant.0
    (asked_at c.args.seat.now t.opened t.version c.args.promises.now c.requires.asked c.loop-promise.promise-index c.loop-promise-test.true p c.promise-item.is)

pub returns-in_err-wait-clause-asks : goal.returns-in_err-wait-clause-asks
returns-in_err-wait-clause-asks g c = asks_asks c.args.engine.now c.args.seat.now c.loop-promise.seat c.wait.new.seat c.args.transaction.now.opened c.args.transaction.now.version c.loop-promise.invariant.0 c.wait.ensures.asks

pub returns-in_err-push-clause-asks : goal.returns-in_err-push-clause-asks
returns-in_err-push-clause-asks g c = asks_asks c.args.engine.now c.args.seat.now c.loop-promise.seat c.wait.new.seat c.args.transaction.now.opened c.args.transaction.now.version c.loop-promise.invariant.0 c.wait.ensures.asks

pub loop-promise-preserved : goal.loop-promise-preserved
loop-promise-preserved g c =
    let eq = g.U.Key.PartialEq.eq in
    let m = g.U.Universe.meaning in
    let C = log_of c.args.seat.now.seen in
    let p = c.promise-item.result in
    let f = c.in_ok-wait.field-0 in
    let r = subst (λ C. IsFound eq m C (arc_value p.key) f) c.loop-promise.invariant.0.goes.log c.in_ok-wait.ensures.found in (
      asks_asks c.args.engine.now c.args.seat.now c.loop-promise.seat c.wait.new.seat c.args.transaction.now.opened c.args.transaction.now.version c.loop-promise.invariant.0 c.wait.ensures.asks,
      subst (AllZip (λ p f. IsFound eq m C (arc_value p.key) f) _) (sym c.in_ok-push.ensures.items)
          (zipped_step (λ p f. IsFound eq m C (arc_value p.key) f) c.args.promises.now c.loop-promise.found.items c.loop-promise.promise-index p f c.loop-promise-test.true c.promise-item.is c.loop-promise.invariant.1 r),
    )
