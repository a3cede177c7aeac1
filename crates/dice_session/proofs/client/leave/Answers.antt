use Rattle.std.proofs.Common.{sym, subst}
use Rattle.std.specs.Arc.{arc_value}
use Rattle.dice_session.specs.Sole.{IsOpen}
use Rattle.dice_session.proofs.Sole.{has_ask, goes_leave, still_leave}
use Rattle.dice_session.proofs.client.leave.Goals as goal

pub leave-requires-clause-ask : goal.leave-requires-clause-ask
leave-requires-clause-ask g c κs within =
    let t = c.args.transaction.now in
    has_ask c.args.seat.now t.opened t.version (arc_value c.args.promise.key) c.args.promise c.requires.asked

pub returns-clause-goes : goal.returns-clause-goes
returns-clause-goes g c =
    let p = c.args.promise in
    goes_leave g.U.Key.PartialEq.eq g.U.Universe.meaning c.args.engine.now c.args.seat.now c.leave.new.seat c.requires.sole p.opened c.args.transaction.now.version p.ask p.version c.leave.ensures.turn

pub returns-clause-still : goal.returns-clause-still
returns-clause-still g c =
    let p = c.args.promise in
    let s = c.args.seat.now in
    let u = c.leave.new.seat in
    let v = c.args.transaction.now.version in
    let n = subst (λ i. IsOpen s i v) (sym c.requires.asked.same_opened) c.requires.open in
    subst (λ i. IsOpen u i v) c.requires.asked.same_opened
    (still_leave g.U.Key.PartialEq.eq g.U.Universe.meaning c.args.engine.now s u c.requires.sole p.opened v p.ask p.version c.leave.ensures.turn n)
