use Rattle.std.proofs.Common.{◌≡◌, length, refl, sym, ap, subst, ◌∙◌}
use Rattle.dice_core.specs.Cores.{events_of}
use Rattle.turnstile.specs.InTurn.{seat_in}
use Rattle.dice_engine.proofs.Turned.{Ended, entered, may_leave, turned, did_so}
use Rattle.std.specs.Arc.{arc_value}
use Rattle.std.specs.Prelude.{IfOk, OnErr}
use Rattle.dice_engine.specs.Turns.{Turn}
use Rattle.dice_engine.specs.Calls.{Asks, AddsNothing}
use Rattle.dice_engine.specs.Conditions.{HasAsk}
use Rattle.dice_engine.proofs.Kept.{has_open}
use Rattle.dice_engine.proofs.Adding.{on_either, map_err}
use Rattle.dice_engine.proofs.Begun.{has_asked, if_ok_both}
use Rattle.dice_engine.proofs.Turned.{lined_adds, number_of}
use Rattle.dice_engine.specs.Conditions.{HasOpen}
use Rattle.dice_engine.specs.Seats.{seated, IsWriter}
use Rattle.dice_engine.proofs.engine.Engine.ask.Goals as goal

pub ask-promise-requires-after_bounds : goal.ask-promise-requires-after_bounds
ask-promise-requires-after_bounds g c κs within = λ lawful.
    let eq = g.U.Key.PartialEq.eq in
    let m = g.U.Universe.meaning in
    let old = c.seat.inside.place in
    let pass = c.seat.inside.pass in
    let was = seated pass old in
    let mid = seat_in c.enter-turn.result in
    let J = events_of c.state-state.result.now.bench.value.core in
    let e = entered eq m old mid (events_of c.enter-turn.result.state.bench.value.core) J (ap (λ s. events_of s.bench.value.core) c.state-state.ensures.value) c.enter-turn.ensures.turn c.enter-turn.ensures.seen c.enter-turn.ensures.mine c.enter-turn.ensures.floor in
    let t = c.args.transaction.now in
    (record { by = old.number; version = t.version }, has_open eq m was J e.begins lawful e.found t.opened t.version (subst (λ z. HasOpen z t.opened t.version) (sym c.seat.view_is) c.requires.open), refl)

pub leave-requires-clause-grows : goal.leave-requires-clause-grows
leave-requires-clause-grows g c =
    let eq = g.U.Key.PartialEq.eq in
    let m = g.U.Universe.meaning in
    let old = c.seat.inside.place in
    let pass = c.seat.inside.pass in
    let was = seated pass old in
    let mid = seat_in c.enter-turn.result in
    let J = events_of c.state-state.result.now.bench.value.core in
    let e = entered eq m old mid (events_of c.enter-turn.result.state.bench.value.core) J (ap (λ s. events_of s.bench.value.core) c.state-state.ensures.value) c.enter-turn.ensures.turn c.enter-turn.ensures.seen c.enter-turn.ensures.mine c.enter-turn.ensures.floor in
    let H = events_of c.ask-promise.new.self.bench.value.core in
    let I = events_of c.line_up.new.self.bench.value.core in
    on_either c.ask-promise.result _ _ _ c.ask-promise.ensures.ok c.ask-promise.ensures.err
    (λ a. may_leave eq m old mid J I _ _ e (subst IsWriter (sym c.seat.view_is) c.requires.seat.1) (c.number-number.ensures ∙ sym (number_of c.seat.view_is)) (lined_adds eq m _ J H I _ c.line_up.ensures.events a))
    (λ a. may_leave eq m old mid J I _ _ e (subst IsWriter (sym c.seat.view_is) c.requires.seat.1) (c.number-number.ensures ∙ sym (number_of c.seat.view_is)) (lined_adds eq m _ J H I _ c.line_up.ensures.events a))

pub returns-clause-ok : goal.returns-clause-ok
returns-clause-ok g c =
    let eq = g.U.Key.PartialEq.eq in
    let m = g.U.Universe.meaning in
    let old = c.seat.inside.place in
    let pass = c.seat.inside.pass in
    let was = seated pass old in
    let mid = seat_in c.enter-turn.result in
    let J = events_of c.state-state.result.now.bench.value.core in
    let e = entered eq m old mid (events_of c.enter-turn.result.state.bench.value.core) J (ap (λ s. events_of s.bench.value.core) c.state-state.ensures.value) c.enter-turn.ensures.turn c.enter-turn.ensures.seen c.enter-turn.ensures.mine c.enter-turn.ensures.floor in
    let H = events_of c.ask-promise.new.self.bench.value.core in
    let I = events_of c.line_up.new.self.bench.value.core in
    let t = c.args.transaction.now in
    let n : c.number-number.result ≡ old.number = c.number-number.ensures ∙ sym (number_of c.seat.view_is) in
    let z : Ended eq m mid c.leave.new.turn.0 I = (record { seen = c.leave.ensures.seen; mine = c.leave.ensures.mine; turns = c.leave.ensures.turns; floor = c.leave.ensures.floor; below = c.leave.ensures.below; noted = c.leave.ensures.noted; same = c.leave.ensures.same }) in
    subst (λ z. IfOk c.ask-promise.result (λ p. Turn eq m z (seated c.seat.inside.pass c.leave.new.turn.0) (λ found own work. Asks z.number t.opened t.version (arc_value c.args.key) own work × (p.ask ≡ length found)))) c.seat.view_is
    (if_ok_both c.ask-promise.result _ _ _ c.ask-promise.ensures.named c.ask-promise.ensures.ok
    (λ p named b. let a = lined_adds eq m _ J H I _ c.line_up.ensures.events b in turned eq m old mid J I pass c.leave.new.turn.0 (λ found own work. Asks old.number t.opened t.version (arc_value c.args.key) own work × (p.ask ≡ length found)) _ e z n (did_so eq m _ J I _ (λ own work. Asks old.number t.opened t.version (arc_value c.args.key) own work × (p.ask ≡ length J)) a (λ own work d. let r : Asks old.number t.opened t.version (arc_value c.args.key) own work × (p.ask ≡ length J) = (subst (λ n. Asks n t.opened t.version (arc_value c.args.key) own work) n d, named.2) in r))))

pub returns-clause-has : goal.returns-clause-has
returns-clause-has g c =
    let eq = g.U.Key.PartialEq.eq in
    let m = g.U.Universe.meaning in
    let old = c.seat.inside.place in
    let pass = c.seat.inside.pass in
    let was = seated pass old in
    let mid = seat_in c.enter-turn.result in
    let J = events_of c.state-state.result.now.bench.value.core in
    let e = entered eq m old mid (events_of c.enter-turn.result.state.bench.value.core) J (ap (λ s. events_of s.bench.value.core) c.state-state.ensures.value) c.enter-turn.ensures.turn c.enter-turn.ensures.seen c.enter-turn.ensures.mine c.enter-turn.ensures.floor in
    let H = events_of c.ask-promise.new.self.bench.value.core in
    let I = events_of c.line_up.new.self.bench.value.core in
    let t = c.args.transaction.now in
    let n : c.number-number.result ≡ old.number = c.number-number.ensures ∙ sym (number_of c.seat.view_is) in
    let z : Ended eq m mid c.leave.new.turn.0 I = (record { seen = c.leave.ensures.seen; mine = c.leave.ensures.mine; turns = c.leave.ensures.turns; floor = c.leave.ensures.floor; below = c.leave.ensures.below; noted = c.leave.ensures.noted; same = c.leave.ensures.same }) in
    (if_ok_both c.ask-promise.result _ _ _ c.ask-promise.ensures.named c.ask-promise.ensures.ok
    (λ p named b.
    let a = lined_adds eq m _ J H I _ c.line_up.ensures.events b in
    let now = seated pass c.leave.new.turn.0 in
    let h = has_asked eq m was now p.ask t.opened t.version (arc_value c.args.key) (subst (λ z. HasOpen z t.opened t.version) (sym c.seat.view_is) c.requires.open)
    (turned eq m old mid J I pass c.leave.new.turn.0 (λ found own work. Asks old.number t.opened t.version (arc_value c.args.key) own work × (p.ask ≡ length found)) _ e z n (did_so eq m _ J I _ (λ own work. Asks old.number t.opened t.version (arc_value c.args.key) own work × (p.ask ≡ length J)) a (λ own work d. let r : Asks old.number t.opened t.version (arc_value c.args.key) own work × (p.ask ≡ length J) = (subst (λ n. Asks n t.opened t.version (arc_value c.args.key) own work) n d, named.2) in r))) in
    subst (λ k. HasAsk now p.ask p.opened p.version k) (sym named.3) (subst (λ v. HasAsk now p.ask p.opened v (arc_value c.args.key)) (sym named.0) (subst (λ o. HasAsk now p.ask o t.version (arc_value c.args.key)) (sym named.1) h))))

pub returns-clause-err : goal.returns-clause-err
returns-clause-err g c =
    let eq = g.U.Key.PartialEq.eq in
    let m = g.U.Universe.meaning in
    let old = c.seat.inside.place in
    let pass = c.seat.inside.pass in
    let was = seated pass old in
    let mid = seat_in c.enter-turn.result in
    let J = events_of c.state-state.result.now.bench.value.core in
    let e = entered eq m old mid (events_of c.enter-turn.result.state.bench.value.core) J (ap (λ s. events_of s.bench.value.core) c.state-state.ensures.value) c.enter-turn.ensures.turn c.enter-turn.ensures.seen c.enter-turn.ensures.mine c.enter-turn.ensures.floor in
    let H = events_of c.ask-promise.new.self.bench.value.core in
    let I = events_of c.line_up.new.self.bench.value.core in
    subst (λ z. OnErr c.ask-promise.result (Turn eq m z (seated c.seat.inside.pass c.leave.new.turn.0) (λ found. AddsNothing))) c.seat.view_is
    (map_err c.ask-promise.result _ _ c.ask-promise.ensures.err (λ b. let a = lined_adds eq m _ J H I _ c.line_up.ensures.events b in turned eq m old mid J I pass c.leave.new.turn.0 (λ found. AddsNothing) _ e (record { seen = c.leave.ensures.seen; mine = c.leave.ensures.mine; turns = c.leave.ensures.turns; floor = c.leave.ensures.floor; below = c.leave.ensures.below; noted = c.leave.ensures.noted; same = c.leave.ensures.same }) (c.number-number.ensures ∙ sym (number_of c.seat.view_is)) a))
