use Rattle.std.proofs.Common.{take, sym, subst}
use Rattle.std.specs.Arc.{arc_value}
use Rattle.std.specs.List.{AllZip}
use Rattle.dice_session.specs.Sole.{IsAsked}
use Rattle.dice_session.proofs.Sole.{asks_asks, asked_stays}
use Rattle.dice_session.proofs.Zipped.{zipped_so, zipped_step}
use Rattle.dice_session.proofs.client.ask_all.Goals as goal

pub returns-in_err-ask-clause-asks : goal.returns-in_err-ask-clause-asks
returns-in_err-ask-clause-asks g c = asks_asks c.args.engine.now c.args.seat.now c.loop-key.seat c.ask.new.seat c.args.transaction.now.opened c.args.transaction.now.version c.loop-key.invariant.0 c.ask.ensures.asks

pub returns-in_err-push-clause-asks : goal.returns-in_err-push-clause-asks
returns-in_err-push-clause-asks g c = asks_asks c.args.engine.now c.args.seat.now c.loop-key.seat c.ask.new.seat c.args.transaction.now.opened c.args.transaction.now.version c.loop-key.invariant.0 c.ask.ensures.asks

pub loop-key-preserved : goal.loop-key-preserved
loop-key-preserved g c =
    let t = c.args.transaction.now in
    let keys = c.args.keys.now in
    let i = c.loop-key.key-index in
    let ps = c.loop-key.promises.items in
    let p = c.in_ok-ask.field-0 in
    let u = c.ask.new.seat in
    let z = zipped_so (λ k p. IsAsked c.loop-key.seat t.opened t.version (arc_value k) p) (λ k p. IsAsked u t.opened t.version (arc_value k) p)
    (λ k p h. asked_stays c.args.engine.now c.loop-key.seat u t.opened t.version (arc_value k) p c.ask.ensures.asks h) (take i keys) ps c.loop-key.invariant.1 in
    let r = subst (λ k. IsAsked u t.opened t.version k p) c.in_ok-key.ensures c.in_ok-ask.ensures.asked in (
      asks_asks c.args.engine.now c.args.seat.now c.loop-key.seat c.ask.new.seat c.args.transaction.now.opened c.args.transaction.now.version c.loop-key.invariant.0 c.ask.ensures.asks,
      subst (AllZip (λ k p. IsAsked u t.opened t.version (arc_value k) p) _) (sym c.in_ok-push.ensures.items)
          (zipped_step (λ k p. IsAsked u t.opened t.version (arc_value k) p) keys ps i c.key-item.result p c.loop-key-test.true c.key-item.is z r),
    )
