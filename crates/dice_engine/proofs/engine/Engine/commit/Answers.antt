use Rattle.std.proofs.Common.{ap, subst, sym, ◌∙◌, ◌≡◌}
use Rattle.dice_core.specs.Cores.{events_of}
use Rattle.turnstile.specs.InTurn.{seat_in}
use Rattle.dice_engine.proofs.Turned.{Ended, entered, may_leave, turned, did_so}
use Rattle.dice_engine.specs.Turns.{log_of, Turn}
use Rattle.std.specs.Prelude.{OnOk, OnErr}
use Rattle.dice_engine.specs.Calls.{Commits, AddsNothing}
use Rattle.dice_engine.proofs.Adding.{on_either, map_ok, map_err}
use Rattle.dice_core.proofs.FaultLemmas.{no_fault, none_named}
use Rattle.dice_engine.proofs.Turned.{lined_adds, number_of}
use Rattle.dice_engine.specs.Seats.{seated, IsWriter}
use Rattle.dice_engine.proofs.engine.Engine.commit.Goals as goal

pub leave-requires-clause-grows : goal.leave-requires-clause-grows
leave-requires-clause-grows g c =
    let eq = g.U.Key.PartialEq.eq in
    let m = g.U.Universe.meaning in
    let old = c.seat.inside.place in
    let pass = c.seat.inside.pass in
    let was = seated pass old in
    let mid = seat_in c.enter-turn.result in
    let J = events_of c.state-state.result.now.bench.value.core in
    let e = entered eq m old mid (events_of c.enter-turn.result.state.bench.value.core) J (ap (λ s. events_of s.bench.value.core) c.state-state.ensures.value) c.enter-turn.ensures.turn c.enter-turn.ensures.seen c.enter-turn.ensures.mine c.enter-turn.ensures.floor in
    let H = events_of c.commit-result.new.self.bench.value.core in
    let I = events_of c.line_up.new.self.bench.value.core in
    on_either c.commit-result.result _ _ _ c.commit-result.ensures.ok c.commit-result.ensures.err
    (λ a. may_leave eq m old mid J I _ _ e (subst IsWriter (sym c.seat.view_is) c.requires.seat.1) (c.number-number.ensures ∙ sym (number_of c.seat.view_is)) (lined_adds eq m _ J H I _ c.line_up.ensures.events a))
    (λ a. may_leave eq m old mid J I _ _ e (subst IsWriter (sym c.seat.view_is) c.requires.seat.1) (c.number-number.ensures ∙ sym (number_of c.seat.view_is)) (lined_adds eq m _ J H I _ c.line_up.ensures.events a))

pub returns-clause-ok : goal.returns-clause-ok
returns-clause-ok g c =
    let eq = g.U.Key.PartialEq.eq in
    let m = g.U.Universe.meaning in
    let old = c.seat.inside.place in
    let pass = c.seat.inside.pass in
    let was = seated pass old in
    let mid = seat_in c.enter-turn.result in
    let J = events_of c.state-state.result.now.bench.value.core in
    let e = entered eq m old mid (events_of c.enter-turn.result.state.bench.value.core) J (ap (λ s. events_of s.bench.value.core) c.state-state.ensures.value) c.enter-turn.ensures.turn c.enter-turn.ensures.seen c.enter-turn.ensures.mine c.enter-turn.ensures.floor in
    let H = events_of c.commit-result.new.self.bench.value.core in
    let I = events_of c.line_up.new.self.bench.value.core in
    let n : c.number-number.result ≡ old.number = c.number-number.ensures ∙ sym (number_of c.seat.view_is) in
    let z : Ended eq m mid c.leave.new.turn.0 I = (record { seen = c.leave.ensures.seen; mine = c.leave.ensures.mine; turns = c.leave.ensures.turns; floor = c.leave.ensures.floor; below = c.leave.ensures.below; noted = c.leave.ensures.noted; same = c.leave.ensures.same }) in
    subst (λ z. OnOk c.commit-result.result (Turn eq m z (seated c.seat.inside.pass c.leave.new.turn.0) (λ found. Commits eq g.U.Value.PartialEq.eq m z.number (log_of found) c.args.updater.now))) c.seat.view_is
    (map_ok c.commit-result.result _ _ c.commit-result.ensures.ok
    (λ b. let a = lined_adds eq m _ J H I _ c.line_up.ensures.events b in turned eq m old mid J I pass c.leave.new.turn.0 (λ found. Commits eq g.U.Value.PartialEq.eq m old.number (log_of found) c.args.updater.now) _ e z n (did_so eq m _ J I _ (Commits eq g.U.Value.PartialEq.eq m old.number (log_of J) c.args.updater.now) a (λ own work d. subst (λ n. Commits eq g.U.Value.PartialEq.eq m n (log_of J) c.args.updater.now own work) n d))))

pub returns-clause-err : goal.returns-clause-err
returns-clause-err g c =
    let eq = g.U.Key.PartialEq.eq in
    let m = g.U.Universe.meaning in
    let old = c.seat.inside.place in
    let pass = c.seat.inside.pass in
    let was = seated pass old in
    let mid = seat_in c.enter-turn.result in
    let J = events_of c.state-state.result.now.bench.value.core in
    let e = entered eq m old mid (events_of c.enter-turn.result.state.bench.value.core) J (ap (λ s. events_of s.bench.value.core) c.state-state.ensures.value) c.enter-turn.ensures.turn c.enter-turn.ensures.seen c.enter-turn.ensures.mine c.enter-turn.ensures.floor in
    let H = events_of c.commit-result.new.self.bench.value.core in
    let I = events_of c.line_up.new.self.bench.value.core in
    subst (λ z. OnErr c.commit-result.result (Turn eq m z (seated c.seat.inside.pass c.leave.new.turn.0) (λ found. AddsNothing))) c.seat.view_is
    (map_err c.commit-result.result _ _ c.commit-result.ensures.err (λ b. let a = lined_adds eq m _ J H I _ c.line_up.ensures.events b in turned eq m old mid J I pass c.leave.new.turn.0 (λ found. AddsNothing) _ e (record { seen = c.leave.ensures.seen; mine = c.leave.ensures.mine; turns = c.leave.ensures.turns; floor = c.leave.ensures.floor; below = c.leave.ensures.below; noted = c.leave.ensures.noted; same = c.leave.ensures.same }) (c.number-number.ensures ∙ sym (number_of c.seat.view_is)) a))

pub returns-clause-complete : goal.returns-clause-complete
returns-clause-complete g c = λ settable. none_named c.commit-result.result _ _ c.commit-result.ensures.fault (λ f h. no_fault g.U.Universe.meaning _ f settable h)
