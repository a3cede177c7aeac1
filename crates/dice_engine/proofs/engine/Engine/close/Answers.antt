use Rattle.std.proofs.Common.{refl, ap, subst, sym}
use Rattle.dice_core.specs.Cores.{events_of}
use Rattle.turnstile.specs.InTurn.{seat_in}
use Rattle.dice_engine.specs.Turns.{Turn}
use Rattle.dice_engine.proofs.Turned.{entered, may_leave, turned}
use Rattle.dice_engine.specs.Calls.{Closes}
use Rattle.dice_engine.proofs.Kept.{has_open}
use Rattle.dice_engine.proofs.Begun.{closes_own}
use Rattle.dice_engine.proofs.Turned.{lined_adds}
use Rattle.dice_engine.specs.Conditions.{HasOpen}
use Rattle.dice_engine.specs.Seats.{seated, IsWriter}
use Rattle.dice_engine.proofs.engine.Engine.close.Goals as goal

pub close-requires-after_bounds : goal.close-requires-after_bounds
close-requires-after_bounds g c κs within = λ lawful.
    let eq = g.U.Key.PartialEq.eq in
    let m = g.U.Universe.meaning in
    let old = c.seat.inside.place in
    let pass = c.seat.inside.pass in
    let was = seated pass old in
    let mid = seat_in c.enter-turn.result in
    let J = events_of c.state-state.result.now.bench.value.core in
    let e = entered eq m old mid (events_of c.enter-turn.result.state.bench.value.core) J (ap (λ s. events_of s.bench.value.core) c.state-state.ensures.value) c.enter-turn.ensures.turn c.enter-turn.ensures.seen c.enter-turn.ensures.mine c.enter-turn.ensures.floor in
    let t = c.args.transaction in
    (record { by = old.number; version = t.version }, has_open eq m was J e.begins lawful e.found t.opened t.version (subst (λ z. HasOpen z t.opened t.version) (sym c.seat.view_is) c.requires.open))

pub leave-requires-clause-grows : goal.leave-requires-clause-grows
leave-requires-clause-grows g c =
    let eq = g.U.Key.PartialEq.eq in
    let m = g.U.Universe.meaning in
    let old = c.seat.inside.place in
    let pass = c.seat.inside.pass in
    let was = seated pass old in
    let mid = seat_in c.enter-turn.result in
    let J = events_of c.state-state.result.now.bench.value.core in
    let e = entered eq m old mid (events_of c.enter-turn.result.state.bench.value.core) J (ap (λ s. events_of s.bench.value.core) c.state-state.ensures.value) c.enter-turn.ensures.turn c.enter-turn.ensures.seen c.enter-turn.ensures.mine c.enter-turn.ensures.floor in
    let H = events_of c.close.new.self.bench.value.core in
    let I = events_of c.line_up.new.self.bench.value.core in
    let t = c.args.transaction in
    let r = c.close.ensures.closes in
    may_leave eq m old mid J I old.number (Closes old.number t.opened t.version) e (subst IsWriter (sym c.seat.view_is) c.requires.seat.1) refl (lined_adds eq m _ J H I _ c.line_up.ensures.events (closes_own eq m pass old mid J H t.opened t.version e (subst (λ z. HasOpen z t.opened t.version) (sym c.seat.view_is) c.requires.open) r.0 r.1 r.2))

pub returns-clause-turn : goal.returns-clause-turn
returns-clause-turn g c =
    let eq = g.U.Key.PartialEq.eq in
    let m = g.U.Universe.meaning in
    let old = c.seat.inside.place in
    let pass = c.seat.inside.pass in
    let was = seated pass old in
    let mid = seat_in c.enter-turn.result in
    let J = events_of c.state-state.result.now.bench.value.core in
    let e = entered eq m old mid (events_of c.enter-turn.result.state.bench.value.core) J (ap (λ s. events_of s.bench.value.core) c.state-state.ensures.value) c.enter-turn.ensures.turn c.enter-turn.ensures.seen c.enter-turn.ensures.mine c.enter-turn.ensures.floor in
    let H = events_of c.close.new.self.bench.value.core in
    let I = events_of c.line_up.new.self.bench.value.core in
    let t = c.args.transaction in
    let r = c.close.ensures.closes in
    subst (λ z. Turn eq m z (seated c.seat.inside.pass c.leave.new.turn.0) (λ found. Closes z.number t.opened t.version)) c.seat.view_is
    (turned eq m old mid J I pass c.leave.new.turn.0 (λ found. Closes old.number t.opened t.version) old.number e (record { seen = c.leave.ensures.seen; mine = c.leave.ensures.mine; turns = c.leave.ensures.turns; floor = c.leave.ensures.floor; below = c.leave.ensures.below; noted = c.leave.ensures.noted; same = c.leave.ensures.same }) refl (lined_adds eq m _ J H I _ c.line_up.ensures.events (closes_own eq m pass old mid J H t.opened t.version e (subst (λ z. HasOpen z t.opened t.version) (sym c.seat.view_is) c.requires.open) r.0 r.1 r.2)))
