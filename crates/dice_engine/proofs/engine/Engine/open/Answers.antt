use Rattle.std.proofs.Common.{◌≡◌, length, ap, sym, ◌∙◌, subst}
use Rattle.dice_core.specs.Cores.{events_of}
use Rattle.turnstile.specs.InTurn.{seat_in}
use Rattle.dice_engine.proofs.Turned.{Ended, entered, may_leave, turned}
use Rattle.dice_engine.proofs.Adding.{on_either, map_err, map_if_ok}
use Rattle.dice_engine.proofs.Turned.{did_so, lined_adds, number_of}
use Rattle.dice_engine.specs.Seats.{seated, IsWriter}
use Rattle.dice_engine.proofs.Begun.{has_opened, if_ok_both}
use Rattle.std.specs.Prelude.{IfOk, OnErr}
use Rattle.dice_engine.specs.Turns.{newest_in, Turn}
use Rattle.dice_engine.specs.Calls.{Opens, AddsNothing}
use Rattle.dice_engine.proofs.engine.Engine.open.Goals as goal

pub leave-requires-clause-grows : goal.leave-requires-clause-grows
leave-requires-clause-grows g c =
    let eq = g.U.Key.PartialEq.eq in
    let m = g.U.Universe.meaning in
    let old = c.seat.inside.place in
    let mid = seat_in c.enter-turn.result in
    let J = events_of c.state-state.result.now.bench.value.core in
    let e = entered eq m old mid (events_of c.enter-turn.result.state.bench.value.core) J (ap (λ s. events_of s.bench.value.core) c.state-state.ensures.value) c.enter-turn.ensures.turn c.enter-turn.ensures.seen c.enter-turn.ensures.mine c.enter-turn.ensures.floor in
    let H = events_of c.open-opened.new.self.bench.value.core in
    let I = events_of c.line_up.new.self.bench.value.core in
    let n : c.number-number.result ≡ old.number = c.number-number.ensures ∙ sym (number_of c.seat.view_is) in
    on_either c.open-opened.result _ _ _ c.open-opened.ensures.ok c.open-opened.ensures.err
    (λ a. may_leave eq m old mid J I _ _ e (subst IsWriter (sym c.seat.view_is) c.requires.seat.1) n (lined_adds eq m _ J H I _ c.line_up.ensures.events a))
    (λ a. may_leave eq m old mid J I _ _ e (subst IsWriter (sym c.seat.view_is) c.requires.seat.1) n (lined_adds eq m _ J H I _ c.line_up.ensures.events a))

pub returns-clause-ok : goal.returns-clause-ok
returns-clause-ok g c =
    let eq = g.U.Key.PartialEq.eq in
    let m = g.U.Universe.meaning in
    let old = c.seat.inside.place in
    let mid = seat_in c.enter-turn.result in
    let J = events_of c.state-state.result.now.bench.value.core in
    let e = entered eq m old mid (events_of c.enter-turn.result.state.bench.value.core) J (ap (λ s. events_of s.bench.value.core) c.state-state.ensures.value) c.enter-turn.ensures.turn c.enter-turn.ensures.seen c.enter-turn.ensures.mine c.enter-turn.ensures.floor in
    let H = events_of c.open-opened.new.self.bench.value.core in
    let I = events_of c.line_up.new.self.bench.value.core in
    let n : c.number-number.result ≡ old.number = c.number-number.ensures ∙ sym (number_of c.seat.view_is) in
    let z : Ended eq m mid c.leave.new.turn.0 I = (record { seen = c.leave.ensures.seen; mine = c.leave.ensures.mine; turns = c.leave.ensures.turns; floor = c.leave.ensures.floor; below = c.leave.ensures.below; noted = c.leave.ensures.noted; same = c.leave.ensures.same }) in
    let p = c.seat.inside.pass in
    subst (λ z. IfOk c.open-opened.result (λ t. Turn eq m z (seated c.seat.inside.pass c.leave.new.turn.0) (λ found own work. Opens z.number found own work × (t.version ≡ newest_in found) × (t.opened ≡ length found)))) c.seat.view_is
    (if_ok_both c.open-opened.result _ _ _ c.open-opened.ensures.named c.open-opened.ensures.ok
    (λ t named b. let a = lined_adds eq m _ J H I _ c.line_up.ensures.events b in turned eq m old mid J I p c.leave.new.turn.0 (λ found own work. Opens old.number found own work × (t.version ≡ newest_in found) × (t.opened ≡ length found)) _ e z n (did_so eq m _ J I _ (λ own work. Opens old.number J own work × (t.version ≡ newest_in J) × (t.opened ≡ length J)) a (λ own work d. let r : Opens old.number J own work × (t.version ≡ newest_in J) × (t.opened ≡ length J) = (subst (λ n. Opens n J own work) n d, named.0, named.1) in r))))

pub returns-clause-has : goal.returns-clause-has
returns-clause-has g c = map_if_ok c.open-opened.result _ _ (returns-clause-ok g c) (λ t u. has_opened g.U.Key.PartialEq.eq g.U.Universe.meaning c.args.seat.now _ t.opened t.version u)

pub returns-clause-err : goal.returns-clause-err
returns-clause-err g c =
    let eq = g.U.Key.PartialEq.eq in
    let m = g.U.Universe.meaning in
    let old = c.seat.inside.place in
    let mid = seat_in c.enter-turn.result in
    let J = events_of c.state-state.result.now.bench.value.core in
    let e = entered eq m old mid (events_of c.enter-turn.result.state.bench.value.core) J (ap (λ s. events_of s.bench.value.core) c.state-state.ensures.value) c.enter-turn.ensures.turn c.enter-turn.ensures.seen c.enter-turn.ensures.mine c.enter-turn.ensures.floor in
    let H = events_of c.open-opened.new.self.bench.value.core in
    let I = events_of c.line_up.new.self.bench.value.core in
    let n : c.number-number.result ≡ old.number = c.number-number.ensures ∙ sym (number_of c.seat.view_is) in
    let p = c.seat.inside.pass in
    subst (λ z. OnErr c.open-opened.result (Turn eq m z (seated c.seat.inside.pass c.leave.new.turn.0) (λ found. AddsNothing))) c.seat.view_is
    (map_err c.open-opened.result _ _ c.open-opened.ensures.err (λ b. let a = lined_adds eq m _ J H I _ c.line_up.ensures.events b in turned eq m old mid J I p c.leave.new.turn.0 (λ found. AddsNothing) _ e (record { seen = c.leave.ensures.seen; mine = c.leave.ensures.mine; turns = c.leave.ensures.turns; floor = c.leave.ensures.floor; below = c.leave.ensures.below; noted = c.leave.ensures.noted; same = c.leave.ensures.same }) n a))
