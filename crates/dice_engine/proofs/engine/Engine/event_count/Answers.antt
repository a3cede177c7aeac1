use Rattle.std.proofs.Common.{refl, ap, subst}
use Rattle.dice_core.specs.Cores.{events_of}
use Rattle.turnstile.specs.InTurn.{seat_in}
use Rattle.dice_engine.specs.Seats.{seated}
use Rattle.dice_engine.specs.Turns.{Turn}
use Rattle.dice_engine.specs.Calls.{AddsNothing}
use Rattle.dice_engine.proofs.Turned.{entered, may_leave_tasks, lined_adds, turned_any}
use Rattle.dice_engine.proofs.Adding.{nothing}
use Rattle.dice_engine.proofs.engine.Engine.event_count.Goals as goal

pub leave-requires-clause-grows : goal.leave-requires-clause-grows
leave-requires-clause-grows g c =
    let eq = g.U.Key.PartialEq.eq in
    let m = g.U.Universe.meaning in
    let old = c.seat.inside.place in
    let mid = seat_in c.enter-turn.result in
    let J = events_of c.state-state.result.now.bench.value.core in
    let e = entered eq m old mid (events_of c.enter-turn.result.state.bench.value.core) J (ap (λ s. events_of s.bench.value.core) c.state-state.ensures.value) c.enter-turn.ensures.turn c.enter-turn.ensures.seen c.enter-turn.ensures.mine c.enter-turn.ensures.floor in
    let I = events_of c.line_up.new.self.bench.value.core in
    let a = lined_adds eq m 0 J J I AddsNothing c.line_up.ensures.events (nothing eq m J J c.event_count-count.ensures.lawful 0 refl) in
    may_leave_tasks eq m old mid J I 0 AddsNothing e a a.did.0

pub returns-clause-turn : goal.returns-clause-turn
returns-clause-turn g c =
    let eq = g.U.Key.PartialEq.eq in
    let m = g.U.Universe.meaning in
    let old = c.seat.inside.place in
    let mid = seat_in c.enter-turn.result in
    let J = events_of c.state-state.result.now.bench.value.core in
    let e = entered eq m old mid (events_of c.enter-turn.result.state.bench.value.core) J (ap (λ s. events_of s.bench.value.core) c.state-state.ensures.value) c.enter-turn.ensures.turn c.enter-turn.ensures.seen c.enter-turn.ensures.mine c.enter-turn.ensures.floor in
    let I = events_of c.line_up.new.self.bench.value.core in
    let a = lined_adds eq m 0 J J I AddsNothing c.line_up.ensures.events (nothing eq m J J c.event_count-count.ensures.lawful 0 refl) in
    subst (λ s. Turn eq m s (seated c.seat.inside.pass c.leave.new.turn.0) (λ found. AddsNothing)) c.seat.view_is
    (turned_any eq m old mid J I c.seat.inside.pass c.leave.new.turn.0 (λ found. AddsNothing) 0 e (record { seen = c.leave.ensures.seen; mine = c.leave.ensures.mine; turns = c.leave.ensures.turns; floor = c.leave.ensures.floor; below = c.leave.ensures.below; noted = c.leave.ensures.noted; same = c.leave.ensures.same }) a a.did.0)
