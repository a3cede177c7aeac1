use Rattle.std.proofs.Common.{refl, ap, subst, sym}
use Rattle.dice_core.specs.Cores.{events_of}
use Rattle.turnstile.specs.InTurn.{seat_in}
use Rattle.dice_engine.specs.Turns.{Turn}
use Rattle.dice_engine.proofs.Turned.{entered, may_leave, turned}
use Rattle.std.specs.Arc.{arc_value}
use Rattle.dice_engine.specs.Calls.{Leaves}
use Rattle.dice_engine.proofs.Kept.{leaves_open, leaves_closed, left_by}
use Rattle.dice_engine.proofs.Turned.{lined_adds}
use Rattle.dice_engine.specs.Conditions.{HasAsk}
use Rattle.dice_engine.specs.Seats.{seated, IsWriter}
use Rattle.dice_engine.proofs.engine.Engine.leave.Goals as goal

pub leave-requires-clause-open : goal.leave-requires-clause-open
leave-requires-clause-open g c = λ κs within lawful o at.
    let eq = g.U.Key.PartialEq.eq in
    let m = g.U.Universe.meaning in
    let old = c.seat.inside.place in
    let pass = c.seat.inside.pass in
    let was = seated pass old in
    let mid = seat_in c.enter-turn.result in
    let J = events_of c.state-state.result.now.bench.value.core in
    let e = entered eq m old mid (events_of c.enter-turn.result.state.bench.value.core) J (ap (λ s. events_of s.bench.value.core) c.state-state.ensures.value) c.enter-turn.ensures.turn c.enter-turn.ensures.seen c.enter-turn.ensures.mine c.enter-turn.ensures.floor in
    let p = c.args.promise in
    leaves_open eq m was J e.begins lawful e.found p.ask p.opened p.version (arc_value p.key) (subst (λ z. HasAsk z p.ask p.opened p.version (arc_value p.key)) (sym c.seat.view_is) c.requires.ask) o at

pub leave-requires-clause-closed : goal.leave-requires-clause-closed
leave-requires-clause-closed g c = λ κs within lawful a live.
    let eq = g.U.Key.PartialEq.eq in
    let m = g.U.Universe.meaning in
    let old = c.seat.inside.place in
    let pass = c.seat.inside.pass in
    let was = seated pass old in
    let mid = seat_in c.enter-turn.result in
    let J = events_of c.state-state.result.now.bench.value.core in
    let e = entered eq m old mid (events_of c.enter-turn.result.state.bench.value.core) J (ap (λ s. events_of s.bench.value.core) c.state-state.ensures.value) c.enter-turn.ensures.turn c.enter-turn.ensures.seen c.enter-turn.ensures.mine c.enter-turn.ensures.floor in
    let p = c.args.promise in
    let r = leaves_closed eq m was J e.begins lawful e.found p.ask p.opened p.version (arc_value p.key) (subst (λ z. HasAsk z p.ask p.opened p.version (arc_value p.key)) (sym c.seat.view_is) c.requires.ask) a live in
    (r.0, (r.1, r.2))

pub leave-requires-2-clause-grows : goal.leave-requires-2-clause-grows
leave-requires-2-clause-grows g c =
    let eq = g.U.Key.PartialEq.eq in
    let m = g.U.Universe.meaning in
    let old = c.seat.inside.place in
    let pass = c.seat.inside.pass in
    let was = seated pass old in
    let mid = seat_in c.enter-turn.result in
    let J = events_of c.state-state.result.now.bench.value.core in
    let e = entered eq m old mid (events_of c.enter-turn.result.state.bench.value.core) J (ap (λ s. events_of s.bench.value.core) c.state-state.ensures.value) c.enter-turn.ensures.turn c.enter-turn.ensures.seen c.enter-turn.ensures.mine c.enter-turn.ensures.floor in
    let H = events_of c.leave.new.self.bench.value.core in
    let I = events_of c.line_up.new.self.bench.value.core in
    let p = c.args.promise in
    may_leave eq m old mid J I old.number (Leaves old.number p.ask p.opened p.version J) e (subst IsWriter (sym c.seat.view_is) c.requires.seat.1) refl
    (lined_adds eq m _ J H I _ c.line_up.ensures.events (c.leave.ensures.leaves old.number (λ lawful a live. left_by eq m was J e.begins lawful e.found p.ask p.opened p.version (arc_value p.key) (subst (λ z. HasAsk z p.ask p.opened p.version (arc_value p.key)) (sym c.seat.view_is) c.requires.ask) a live)))

pub returns-clause-turn : goal.returns-clause-turn
returns-clause-turn g c =
    let eq = g.U.Key.PartialEq.eq in
    let m = g.U.Universe.meaning in
    let old = c.seat.inside.place in
    let pass = c.seat.inside.pass in
    let was = seated pass old in
    let mid = seat_in c.enter-turn.result in
    let J = events_of c.state-state.result.now.bench.value.core in
    let e = entered eq m old mid (events_of c.enter-turn.result.state.bench.value.core) J (ap (λ s. events_of s.bench.value.core) c.state-state.ensures.value) c.enter-turn.ensures.turn c.enter-turn.ensures.seen c.enter-turn.ensures.mine c.enter-turn.ensures.floor in
    let H = events_of c.leave.new.self.bench.value.core in
    let I = events_of c.line_up.new.self.bench.value.core in
    let p = c.args.promise in
    subst (λ z. Turn eq m z (seated c.seat.inside.pass c.leave-2.new.turn.0) (λ found. Leaves z.number p.ask p.opened p.version found)) c.seat.view_is
    (turned eq m old mid J I pass c.leave-2.new.turn.0 (λ found. Leaves old.number p.ask p.opened p.version found) old.number e (record { seen = c.leave-2.ensures.seen; mine = c.leave-2.ensures.mine; turns = c.leave-2.ensures.turns; floor = c.leave-2.ensures.floor; below = c.leave-2.ensures.below; noted = c.leave-2.ensures.noted; same = c.leave-2.ensures.same }) refl
    (lined_adds eq m _ J H I _ c.line_up.ensures.events (c.leave.ensures.leaves old.number (λ lawful a live. left_by eq m was J e.begins lawful e.found p.ask p.opened p.version (arc_value p.key) (subst (λ z. HasAsk z p.ask p.opened p.version (arc_value p.key)) (sym c.seat.view_is) c.requires.ask) a live))))
