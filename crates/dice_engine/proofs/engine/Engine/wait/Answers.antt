use Rattle.std.proofs.Common.{◌≡◌, [], sym, ◌∙◌, subst}
use Rattle.std.specs.Arc.{arc_value}
use Rattle.dice_engine.specs.Turns.{rests, works}
use Rattle.dice_engine.specs.Calls.{AddsNothing}
use Rattle.dice_engine.specs.Doings.{begins, looks, looked, TellsOfCore}
use Rattle.dice_engine.proofs.Turned.{turn_so, work_later, works_both, later_later}
use Rattle.dice_engine.proofs.Callers.{same_number, same_writers, seat_works, works_begin, saw_later}
use Rattle.dice_engine.proofs.Rounds.{only_looked, waits_both}
use Rattle.dice_engine.proofs.engine.Engine.wait.Goals as goal

pub returns-in-Some-clause-works : goal.returns-in-Some-clause-works
returns-in-Some-clause-works g c =
    works rests (turn_so g.U.Key.PartialEq.eq g.U.Universe.meaning c.args.seat.now c.poll.new.seat (λ found. AddsNothing) (λ found own work. own ≡ []) c.poll.ensures.turn (λ found own work d. d.0))

pub returns-in-Some-clause-later : goal.returns-in-Some-clause-later
returns-in-Some-clause-later g c =
    work_later g.U.Key.PartialEq.eq g.U.Universe.meaning c.args.seat.now c.args.seat.now c.poll.new.seat rests
    (turn_so g.U.Key.PartialEq.eq g.U.Universe.meaning c.args.seat.now c.poll.new.seat (λ found. AddsNothing) (λ found own work. own ≡ []) c.poll.ensures.turn (λ found own work d. d.0))

pub returns-in-Some-clause-waits : goal.returns-in-Some-clause-waits
returns-in-Some-clause-waits g c = record {
  mid = c.args.seat.now;
  waited = begins;
  told = looked (subst (λ r. TellsOfCore g.U.Key.PartialEq.eq g.U.Universe.meaning c.args.promise.now r c.args.seat.now c.poll.new.seat) (sym c.in-Some.ensures) c.poll.ensures.exact);
}

pub loop-init : goal.loop-init
loop-init g c =
    let eq = g.U.Key.PartialEq.eq in
    let m = g.U.Universe.meaning in
    let old = c.args.seat.now in
    let new = c.poll.new.seat in
    let t = turn_so eq m old new (λ found. AddsNothing) (λ found own work. own ≡ []) c.poll.ensures.turn (λ found own work d. d.0) in record {
      works = works rests t;
      later = work_later eq m old old new rests t;
      waited = looks begins (only_looked eq m c.args.promise.now _ old new c.poll.ensures.exact);
    }

pub go_round-requires-clause-seat : goal.go_round-requires-clause-seat
go_round-requires-clause-seat g c = λ κs within. seat_works g.U.Key.PartialEq.eq g.U.Universe.meaning _ c.args.seat.now c.loop.seat c.loop.invariant.works c.requires.seat

pub go_round-requires-clause-ask : goal.go_round-requires-clause-ask
go_round-requires-clause-ask g c = λ κs within.
    let p = c.args.promise.now in
    saw_later c.args.seat.now c.loop.seat p.ask p.opened p.version (arc_value p.key) (works_begin g.U.Key.PartialEq.eq g.U.Universe.meaning c.args.seat.now c.loop.seat c.loop.invariant.works) c.requires.ask

pub returns-in-Settled-clause-works : goal.returns-in-Settled-clause-works
returns-in-Settled-clause-works g c = works_both g.U.Key.PartialEq.eq g.U.Universe.meaning c.args.seat.now c.loop.seat c.go_round.new.seat c.loop.invariant.works c.go_round.ensures.works

pub returns-in-Settled-clause-later : goal.returns-in-Settled-clause-later
returns-in-Settled-clause-later g c = (
  later_later g.U.Key.PartialEq.eq g.U.Universe.meaning c.args.seat.now c.loop.seat c.go_round.new.seat c.loop.invariant.later.0 c.go_round.ensures.later.0,
  c.go_round.ensures.later.1 ∙ c.loop.invariant.later.1,
)

pub returns-in-Settled-clause-seat : goal.returns-in-Settled-clause-seat
returns-in-Settled-clause-seat g c = seat_works g.U.Key.PartialEq.eq g.U.Universe.meaning _ c.args.seat.now c.go_round.new.seat (returns-in-Settled-clause-works g c) c.requires.seat

pub returns-in-Settled-clause-same : goal.returns-in-Settled-clause-same
returns-in-Settled-clause-same g c =
    let l = (returns-in-Settled-clause-later g c).0 in
    (same_number g.U.Key.PartialEq.eq g.U.Universe.meaning c.args.seat.now c.go_round.new.seat l, same_writers g.U.Key.PartialEq.eq g.U.Universe.meaning c.args.seat.now c.go_round.new.seat l)

pub returns-in-Settled-clause-waits : goal.returns-in-Settled-clause-waits
returns-in-Settled-clause-waits g c = record {
  mid = c.loop.seat;
  waited = c.loop.invariant.waited;
  told = c.in-Settled.ensures.settled;
}

pub loop-preserved-in-Pending-Did : goal.loop-preserved-in-Pending-Did
loop-preserved-in-Pending-Did g c = record {
  works = works_both g.U.Key.PartialEq.eq g.U.Universe.meaning c.args.seat.now c.loop.seat c.go_round.new.seat c.loop.invariant.works c.go_round.ensures.works;
  later = (
    later_later g.U.Key.PartialEq.eq g.U.Universe.meaning c.args.seat.now c.loop.seat c.go_round.new.seat c.loop.invariant.later.0 c.go_round.ensures.later.0,
    c.go_round.ensures.later.1 ∙ c.loop.invariant.later.1,
  );
  waited = waits_both g.U.Key.PartialEq.eq g.U.Universe.meaning g.U.Value.PartialEq.eq c.args.seat.now c.loop.seat c.go_round.new.seat c.loop.invariant.waited c.in-Pending-Did.ensures.pending;
}

pub loop-preserved : goal.loop-preserved
loop-preserved g c = record {
  works = works_both g.U.Key.PartialEq.eq g.U.Universe.meaning c.args.seat.now c.loop.seat c.go_round.new.seat c.loop.invariant.works c.go_round.ensures.works;
  later = (
    later_later g.U.Key.PartialEq.eq g.U.Universe.meaning c.args.seat.now c.loop.seat c.go_round.new.seat c.loop.invariant.later.0 c.go_round.ensures.later.0,
    c.go_round.ensures.later.1 ∙ c.loop.invariant.later.1,
  );
  waited = waits_both g.U.Key.PartialEq.eq g.U.Universe.meaning g.U.Value.PartialEq.eq c.args.seat.now c.loop.seat c.go_round.new.seat c.loop.invariant.waited c.in-Pending-Idle.ensures.pending;
}
