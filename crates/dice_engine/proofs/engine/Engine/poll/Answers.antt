use Rattle.std.proofs.Common.{sym, ◌∙◌, ◌≡◌, [], refl, ap, subst}
use Rattle.dice_core.specs.Cores.{events_of}
use Rattle.turnstile.specs.InTurn.{seat_in}
use Rattle.dice_engine.specs.Turns.{Turn, left_of}
use Rattle.dice_engine.proofs.Lining.{reply_lined}
use Rattle.dice_engine.proofs.Turned.{entered, may_leave_tasks, did_so, turned_any}
use Rattle.std.specs.Arc.{arc_value}
use Rattle.dice_engine.specs.Calls.{AddsNothing}
use Rattle.dice_engine.proofs.Kept.{saw}
use Rattle.dice_engine.proofs.Adding.{nothing}
use Rattle.dice_engine.proofs.Jobs.{turned_over}
use Rattle.dice_engine.specs.Replies.{reply_of, IsReply}
use Rattle.dice_engine.specs.Doings.{TellsOfCore}
use Rattle.dice_engine.proofs.Turned.{lined_adds}
use Rattle.dice_engine.specs.Conditions.{SawAsk}
use Rattle.dice_engine.specs.Seats.{seated}
use Rattle.dice_engine.proofs.engine.Engine.poll.Goals as goal

pub poll-answer-requires-after_bounds : goal.poll-answer-requires-after_bounds
poll-answer-requires-after_bounds g c κs within = λ lawful a live.
    let eq = g.U.Key.PartialEq.eq in
    let m = g.U.Universe.meaning in
    let old = c.seat.inside.place in
    let pass = c.seat.inside.pass in
    let was = seated pass old in
    let mid = seat_in c.enter-turn.result in
    let J = events_of c.state-state.result.now.bench.value.core in
    let e = entered eq m old mid (events_of c.enter-turn.result.state.bench.value.core) J (ap (λ s. events_of s.bench.value.core) c.state-state.ensures.value) c.enter-turn.ensures.turn c.enter-turn.ensures.seen c.enter-turn.ensures.mine c.enter-turn.ensures.floor in
    let p = c.args.promise.now in
    saw eq m was J e.begins lawful p.ask p.opened p.version (arc_value p.key) (subst (λ z. SawAsk z p.ask p.opened p.version (arc_value p.key)) (sym c.seat.view_is) c.requires.ask) a live

pub leave-requires-clause-grows : goal.leave-requires-clause-grows
leave-requires-clause-grows g c =
    let eq = g.U.Key.PartialEq.eq in
    let m = g.U.Universe.meaning in
    let old = c.seat.inside.place in
    let pass = c.seat.inside.pass in
    let was = seated pass old in
    let mid = seat_in c.enter-turn.result in
    let J = events_of c.state-state.result.now.bench.value.core in
    let e = entered eq m old mid (events_of c.enter-turn.result.state.bench.value.core) J (ap (λ s. events_of s.bench.value.core) c.state-state.ensures.value) c.enter-turn.ensures.turn c.enter-turn.ensures.seen c.enter-turn.ensures.mine c.enter-turn.ensures.floor in
    let I = events_of c.line_up.new.self.bench.value.core in
    let a = lined_adds eq m 0 J J I AddsNothing c.line_up.ensures.events (nothing eq m J J c.poll-answer.ensures.lawful 0 refl) in
    may_leave_tasks eq m old mid J I 0 AddsNothing e a a.did.0

pub returns-clause-turn : goal.returns-clause-turn
returns-clause-turn g c =
    let eq = g.U.Key.PartialEq.eq in
    let m = g.U.Universe.meaning in
    let old = c.seat.inside.place in
    let pass = c.seat.inside.pass in
    let was = seated pass old in
    let mid = seat_in c.enter-turn.result in
    let J = events_of c.state-state.result.now.bench.value.core in
    let e = entered eq m old mid (events_of c.enter-turn.result.state.bench.value.core) J (ap (λ s. events_of s.bench.value.core) c.state-state.ensures.value) c.enter-turn.ensures.turn c.enter-turn.ensures.seen c.enter-turn.ensures.mine c.enter-turn.ensures.floor in
    let I = events_of c.line_up.new.self.bench.value.core in
    let a = lined_adds eq m 0 J J I AddsNothing c.line_up.ensures.events (nothing eq m J J c.poll-answer.ensures.lawful 0 refl) in
    subst (λ z. Turn eq m z (seated c.seat.inside.pass c.leave.new.turn.0) (λ found. AddsNothing)) c.seat.view_is
    (turned_any eq m old mid J I pass c.leave.new.turn.0 (λ found. AddsNothing) 0 e (record { seen = c.leave.ensures.seen; mine = c.leave.ensures.mine; turns = c.leave.ensures.turns; floor = c.leave.ensures.floor; below = c.leave.ensures.below; noted = c.leave.ensures.noted; same = c.leave.ensures.same }) a a.did.0)

pub returns-clause-exact : goal.returns-clause-exact
returns-clause-exact g c =
    let eq = g.U.Key.PartialEq.eq in
    let m = g.U.Universe.meaning in
    let old = c.seat.inside.place in
    let pass = c.seat.inside.pass in
    let was = seated pass old in
    let mid = seat_in c.enter-turn.result in
    let core = c.state-state.result.now.bench.value.core in
    let J = events_of core in
    let p = c.args.promise.now in
    let r = reply_of c.poll-answer.result in
    let e = entered eq m old mid (events_of c.enter-turn.result.state.bench.value.core) J (ap (λ s. events_of s.bench.value.core) c.state-state.ensures.value) c.enter-turn.ensures.turn c.enter-turn.ensures.seen c.enter-turn.ensures.mine c.enter-turn.ensures.floor in
    let a = did_so eq m 0 J J AddsNothing (λ own work. own ≡ []) (nothing eq m J J c.poll-answer.ensures.lawful 0 refl) (λ own work d. d.0) in
    subst (λ z. TellsOfCore eq m p r z (seated c.seat.inside.pass c.leave.new.turn.0)) c.seat.view_is
    (turned_over eq m old mid c.leave.new.turn.0 core core c.line_up.new.self.bench.value.core pass _ 0 _ _ _ e (record { seen = c.leave.ensures.seen; mine = c.leave.ensures.mine; turns = c.leave.ensures.turns; floor = c.leave.ensures.floor; below = c.leave.ensures.below; noted = c.leave.ensures.noted; same = c.leave.ensures.same }) a c.line_up.ensures.events (c.leave.ensures.left ∙ c.line_up.ensures.counts) c.line_up.ensures.rests (refl, c.poll-answer.ensures.exact) c.line_up.ensures.lines_up)

pub returns-clause-reply : goal.returns-clause-reply
returns-clause-reply g c =
    let eq = g.U.Key.PartialEq.eq in
    let m = g.U.Universe.meaning in
    let p = c.args.promise.now in
    let k = arc_value p.key in
    let r = reply_of c.poll-answer.result in
    let core = c.state-state.result.now.bench.value.core in
    let left = c.line_up.new.self.bench.value.core in
    let mark = c.line_up.new.self.mark in
    subst (λ l. IsReply eq m c.leave.new.turn.0.seen p.version k p.ask l r) (sym (c.leave.ensures.left ∙ c.line_up.ensures.counts))
    (subst (λ J. IsReply eq m J p.version k p.ask (left_of mark left) r) (sym (c.leave.ensures.seen ∙ c.line_up.ensures.events))
    (reply_lined eq m (events_of core) p.version k p.ask _ _ core left c.state-state.result.now.mark mark r c.line_up.ensures.lines_up c.poll-answer.ensures.reply))
