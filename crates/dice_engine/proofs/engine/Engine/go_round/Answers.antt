use Rattle.std.proofs.Common.{ap, ◌∙◌, subst}
use Rattle.dice_engine.specs.Seats.{seated}
use Rattle.dice_engine.specs.Turns.{Works}
use Rattle.dice_engine.specs.Replies.{reply_of, settled_of}
use Rattle.dice_engine.specs.Doings.{GetsJob, TellsLast, WaitsOn, from_line, begins, does}
use Rattle.dice_engine.proofs.Turned.{works_both}
use Rattle.dice_engine.proofs.Jobs.{came_of_job, got_works}
use Rattle.dice_engine.proofs.Rounds.{looked_works, looked_waits, looked_tells, worked_waits, waits_both, gave_tells, gave_does}
use Rattle.dice_engine.proofs.engine.Engine.go_round.Goals as goal

-- ---- the line was empty

pub returns-in-Some-come_to-clause-works : goal.returns-in-Some-come_to-clause-works
returns-in-Some-come_to-clause-works g c =
    let was = seated c.seat.inside.pass c.seat.inside.place in
    let found = seated c.take.new.pass c.seat.inside.place in
    subst (λ z. Works g.U.Key.PartialEq.eq g.U.Universe.meaning z c.poll.new.seat) c.seat.view_is
    (looked_works g.U.Key.PartialEq.eq g.U.Universe.meaning was found c.poll.new.seat (ap (λ p. seated p c.seat.inside.place) c.in_default.ensures.none.0) c.poll.ensures.turn)

pub returns-in-Some-come_to-clause-settled : goal.returns-in-Some-come_to-clause-settled
returns-in-Some-come_to-clause-settled g c =
    let eq = g.U.Key.PartialEq.eq in
    let m = g.U.Universe.meaning in
    let veq = g.U.Value.PartialEq.eq in
    let was = seated c.seat.inside.pass c.seat.inside.place in
    let found = seated c.take.new.pass c.seat.inside.place in
    let r = settled_of c.in-Some-come_to.settled in
    subst (λ z. TellsLast eq m veq c.args.promise.now r z c.poll.new.seat) c.seat.view_is
    (looked_tells eq m was found c.poll.new.seat (ap (λ p. seated p c.seat.inside.place) c.in_default.ensures.none.0) veq c.args.promise.now (reply_of c.poll.result) r c.in-Some-come_to.ensures c.poll.ensures.exact)

pub returns-then-left-eq0-clause-works : goal.returns-then-left-eq0-clause-works
returns-then-left-eq0-clause-works g c =
    let was = seated c.seat.inside.pass c.seat.inside.place in
    let found = seated c.take.new.pass c.seat.inside.place in
    subst (λ z. Works g.U.Key.PartialEq.eq g.U.Universe.meaning z c.poll.new.seat) c.seat.view_is
    (looked_works g.U.Key.PartialEq.eq g.U.Universe.meaning was found c.poll.new.seat (ap (λ p. seated p c.seat.inside.place) c.in_default.ensures.none.0) c.poll.ensures.turn)

pub returns-then-left-eq0-clause-pending : goal.returns-then-left-eq0-clause-pending
returns-then-left-eq0-clause-pending g c =
    let eq = g.U.Key.PartialEq.eq in
    let m = g.U.Universe.meaning in
    let veq = g.U.Value.PartialEq.eq in
    let was = seated c.seat.inside.pass c.seat.inside.place in
    let found = seated c.take.new.pass c.seat.inside.place in
    subst (λ z. WaitsOn eq m veq z c.poll.new.seat) c.seat.view_is
    (looked_waits eq m was found c.poll.new.seat (ap (λ p. seated p c.seat.inside.place) c.in_default.ensures.none.0) veq c.args.promise.now (reply_of c.poll.result) c.poll.ensures.exact)

pub returns-in_default-clause-works : goal.returns-in_default-clause-works
returns-in_default-clause-works g c =
    let eq = g.U.Key.PartialEq.eq in
    let m = g.U.Universe.meaning in
    let was = seated c.seat.inside.pass c.seat.inside.place in
    let found = seated c.take.new.pass c.seat.inside.place in
    let mid = c.poll.new.seat in
    works_both eq m c.args.seat.now mid c.work.new.seat
    (subst (λ z. Works eq m z mid) c.seat.view_is (looked_works eq m was found mid (ap (λ p. seated p c.seat.inside.place) c.in_default.ensures.none.0) c.poll.ensures.turn))
    c.work.ensures.works

pub returns-in_default-clause-pending : goal.returns-in_default-clause-pending
returns-in_default-clause-pending g c =
    let eq = g.U.Key.PartialEq.eq in
    let m = g.U.Universe.meaning in
    let veq = g.U.Value.PartialEq.eq in
    let was = seated c.seat.inside.pass c.seat.inside.place in
    let found = seated c.take.new.pass c.seat.inside.place in
    let mid = c.poll.new.seat in
    waits_both eq m veq c.args.seat.now mid c.work.new.seat
    (subst (λ z. WaitsOn eq m veq z mid) c.seat.view_is
    (looked_waits eq m was found mid (ap (λ p. seated p c.seat.inside.place) c.in_default.ensures.none.0) veq c.args.promise.now (reply_of c.poll.result) c.poll.ensures.exact))
    (worked_waits eq m veq c.work.result mid c.work.new.seat c.work.ensures.job c.work.ensures.none)

-- ---- a job was on it

pub returns-in-Some-come_to-2-clause-works : goal.returns-in-Some-come_to-2-clause-works
returns-in-Some-come_to-2-clause-works g c =
    let eq = g.U.Key.PartialEq.eq in
    let m = g.U.Universe.meaning in
    let took = c.in-Some.ensures.some in
    let was = seated c.seat.inside.pass c.seat.inside.place in
    let mid = seated c.take.new.pass c.seat.inside.place in
    let now = seated c.give-answer.new.pass c.give-answer.new.place in
    let gets : GetsJob eq m was mid c.in-Some.job = from_line took.0.place took.0.first (ap (λ p. seated p c.seat.inside.place) took.1 ∙ ap (λ ps. record was { places = ps }) took.0.gained) in
    subst (λ z. Works eq m z now) c.seat.view_is (got_works eq m was mid now c.in-Some.job gets c.give-answer.ensures.home.turn)

pub returns-in-Some-come_to-2-clause-settled : goal.returns-in-Some-come_to-2-clause-settled
returns-in-Some-come_to-2-clause-settled g c =
    let eq = g.U.Key.PartialEq.eq in
    let m = g.U.Universe.meaning in
    let veq = g.U.Value.PartialEq.eq in
    let took = c.in-Some.ensures.some in
    let was = seated c.seat.inside.pass c.seat.inside.place in
    let mid = seated c.take.new.pass c.seat.inside.place in
    let now = seated c.give-answer.new.pass c.give-answer.new.place in
    let job = c.in-Some.job in
    let came = c.advance-came.result in
    let r = settled_of c.in-Some-come_to-2.settled in
    let gets : GetsJob eq m was mid job = from_line took.0.place took.0.first (ap (λ p. seated p c.seat.inside.place) took.1 ∙ ap (λ ps. record was { places = ps }) took.0.gained) in
    subst (λ z. TellsLast eq m veq c.args.promise.now r z now) c.seat.view_is
    (gave_tells eq m veq c.args.promise.now (reply_of c.give-answer.result) was mid now job came gets (came_of_job eq m veq came job c.advance-came.ensures.step c.advance-came.ensures.refused) c.give-answer.ensures.home r c.in-Some-come_to-2.ensures)

pub returns-clause-works : goal.returns-clause-works
returns-clause-works g c =
    let eq = g.U.Key.PartialEq.eq in
    let m = g.U.Universe.meaning in
    let took = c.in-Some.ensures.some in
    let was = seated c.seat.inside.pass c.seat.inside.place in
    let mid = seated c.take.new.pass c.seat.inside.place in
    let now = seated c.give-answer.new.pass c.give-answer.new.place in
    let gets : GetsJob eq m was mid c.in-Some.job = from_line took.0.place took.0.first (ap (λ p. seated p c.seat.inside.place) took.1 ∙ ap (λ ps. record was { places = ps }) took.0.gained) in
    subst (λ z. Works eq m z now) c.seat.view_is (got_works eq m was mid now c.in-Some.job gets c.give-answer.ensures.home.turn)

pub returns-clause-pending : goal.returns-clause-pending
returns-clause-pending g c =
    let eq = g.U.Key.PartialEq.eq in
    let m = g.U.Universe.meaning in
    let veq = g.U.Value.PartialEq.eq in
    let took = c.in-Some.ensures.some in
    let was = seated c.seat.inside.pass c.seat.inside.place in
    let mid = seated c.take.new.pass c.seat.inside.place in
    let now = seated c.give-answer.new.pass c.give-answer.new.place in
    let job = c.in-Some.job in
    let came = c.advance-came.result in
    let gets : GetsJob eq m was mid job = from_line took.0.place took.0.first (ap (λ p. seated p c.seat.inside.place) took.1 ∙ ap (λ ps. record was { places = ps }) took.0.gained) in
    subst (λ z. WaitsOn eq m veq z now) c.seat.view_is
    (does begins (gave_does eq m veq c.args.promise.now (reply_of c.give-answer.result) was mid now job came gets (came_of_job eq m veq came job c.advance-came.ensures.step c.advance-came.ensures.refused) c.give-answer.ensures.home))
