use Rattle.std.proofs.Common.{◌∙◌, Ok, ap, subst}
use Rattle.std.specs.Arc.{arc_value}
use Rattle.dice_model.specs.Eval.{HasValue}
use Rattle.journal.specs.Law.{CycleStands}
use Rattle.dice_engine.specs.Replies.{IsReply, settled_of}
use Rattle.dice_session.proofs.Sole.{goes_work, asks_work, not_gone, saw_ask, moved}
use Rattle.dice_session.proofs.client.wait.Goals as goal

pub wait-requires-clause-ask : goal.wait-requires-clause-ask
wait-requires-clause-ask g c κs within =
    let t = c.args.transaction.now in
    let p = c.args.promise.now in
    saw_ask c.args.seat.now t.opened t.version (arc_value p.key) p c.requires.asked

pub returns-in_err-value-clause-asks : goal.returns-in_err-value-clause-asks
returns-in_err-value-clause-asks g c =
    let t = c.args.transaction.now in
    asks_work g.U.Key.PartialEq.eq g.U.Universe.meaning c.args.engine.now c.args.seat.now c.wait.new.seat c.requires.sole t.opened t.version c.requires.open c.wait.ensures.later

pub returns-in-Value-clause-asks : goal.returns-in-Value-clause-asks
returns-in-Value-clause-asks g c =
    let t = c.args.transaction.now in
    asks_work g.U.Key.PartialEq.eq g.U.Universe.meaning c.args.engine.now c.args.seat.now c.wait.new.seat c.requires.sole t.opened t.version c.requires.open c.wait.ensures.later

pub returns-in-Cycle-clause-asks : goal.returns-in-Cycle-clause-asks
returns-in-Cycle-clause-asks g c =
    let t = c.args.transaction.now in
    asks_work g.U.Key.PartialEq.eq g.U.Universe.meaning c.args.engine.now c.args.seat.now c.wait.new.seat c.requires.sole t.opened t.version c.requires.open c.wait.ensures.later

pub returns-in-Value-clause-found : goal.returns-in-Value-clause-found
returns-in-Value-clause-found g c =
    let eq = g.U.Key.PartialEq.eq in
    let m = g.U.Universe.meaning in
    let p = c.args.promise.now in
    let u = c.wait.new.seat in
    let r = subst (λ r. IsReply eq m u.seen p.version (arc_value p.key) p.ask u.left r) (ap settled_of (c.in_ok-value.was ∙ ap Ok c.in-Value.is)) c.wait.ensures.reply in
    let w = goes_work eq m c.args.engine.now c.args.seat.now u c.requires.sole c.wait.ensures.later in
    moved (λ C v. HasValue eq m C v (arc_value p.key) (arc_value c.in-Value.value)) _ _ _ _ w.log (c.requires.asked.same_version ∙ c.requires.open.newest) r.2

pub returns-in-Cycle-clause-found : goal.returns-in-Cycle-clause-found
returns-in-Cycle-clause-found g c =
    let eq = g.U.Key.PartialEq.eq in
    let m = g.U.Universe.meaning in
    let p = c.args.promise.now in
    let u = c.wait.new.seat in
    let r = subst (λ r. IsReply eq m u.seen p.version (arc_value p.key) p.ask u.left r) (ap settled_of (c.in_ok-value.was ∙ ap Ok c.in-Cycle.is)) c.wait.ensures.reply in
    let w = goes_work eq m c.args.engine.now c.args.seat.now u c.requires.sole c.wait.ensures.later in
    moved (λ C v. CycleStands eq m C v (arc_value p.key) (arc_value c.in-Cycle.path)) _ _ _ _ w.log (c.requires.asked.same_version ∙ c.requires.open.newest) r.3

pub unreachable-requires : goal.unreachable-requires
unreachable-requires g c =
    let eq = g.U.Key.PartialEq.eq in
    let m = g.U.Universe.meaning in
    let t = c.args.transaction.now in
    let p = c.args.promise.now in
    let u = c.wait.new.seat in
    let r = subst (λ r. IsReply eq m u.seen p.version (arc_value p.key) p.ask u.left r) (ap settled_of (c.in_ok-value.was ∙ ap Ok c.in-Gone.is)) c.wait.ensures.reply in
    not_gone eq m c.args.engine.now c.args.seat.now u c.requires.sole p.ask t.opened t.version (arc_value p.key) c.wait.ensures.later c.requires.asked.has c.requires.open.has.not_closed r
