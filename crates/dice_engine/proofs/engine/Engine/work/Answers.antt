use Rattle.std.proofs.Common.{◌≡◌, [], subst}
use Rattle.dice_core.specs.Cores.{IsJobOut}
use Rattle.dice_engine.specs.Seats.{seated, found_empty}
use Rattle.dice_engine.specs.Turns.{Works, Later, rests, works}
use Rattle.dice_engine.specs.Jobs.{ComesHome, CameOf}
use Rattle.dice_engine.specs.Doings.{FindsNothing, DoesJob}
use Rattle.dice_engine.proofs.Turned.{turn_of_pass}
use Rattle.dice_engine.proofs.Jobs.{came_of_job, job_home, over_so, got_works, got_later}
use Rattle.dice_engine.proofs.engine.Engine.work.Goals as goal

pub returns-in_default-clause-works : goal.returns-in_default-clause-works
returns-in_default-clause-works g c =
    let eq = g.U.Key.PartialEq.eq in
    let m = g.U.Universe.meaning in
    let was = seated c.seat.inside.pass c.seat.inside.place in
    let now = seated c.next_job.new.pass c.next_job.new.place in
    subst (λ z. Works eq m z now) c.seat.view_is (works rests (turn_of_pass eq m was now was.places (found_empty was).empties (λ found own work. own ≡ []) c.in_default.ensures.none.turn))

pub returns-in_default-clause-none : goal.returns-in_default-clause-none
returns-in_default-clause-none g c = λ e. subst (λ z. FindsNothing g.U.Key.PartialEq.eq g.U.Universe.meaning z (seated c.next_job.new.pass c.next_job.new.place)) c.seat.view_is c.in_default.ensures.none

pub returns-clause-works : goal.returns-clause-works
returns-clause-works g c =
    let eq = g.U.Key.PartialEq.eq in
    let m = g.U.Universe.meaning in
    let was = seated c.seat.inside.pass c.seat.inside.place in
    let mid = seated c.next_job.new.pass c.next_job.new.place in
    let now = seated c.take_up.new.pass c.take_up.new.place in
    subst (λ z. Works eq m z now) c.seat.view_is (got_works eq m was mid now c.in-Some.job c.in-Some.ensures.some c.take_up.ensures.home.turn)

pub returns-clause-later : goal.returns-clause-later
returns-clause-later g c =
    let eq = g.U.Key.PartialEq.eq in
    let m = g.U.Universe.meaning in
    let was = seated c.seat.inside.pass c.seat.inside.place in
    let mid = seated c.next_job.new.pass c.next_job.new.place in
    let now = seated c.take_up.new.pass c.take_up.new.place in
    subst (λ z. Later eq m z now × (now.mine ≡ z.mine)) c.seat.view_is (got_later eq m was mid now c.in-Some.job c.in-Some.ensures.some c.take_up.ensures.home.turn)

pub returns-clause-job : goal.returns-clause-job
returns-clause-job g c = λ e.
    let eq = g.U.Key.PartialEq.eq in
    let m = g.U.Universe.meaning in
    let veq = g.U.Value.PartialEq.eq in
    let mid = seated c.next_job.new.pass c.next_job.new.place in
    let now = seated c.take_up.new.pass c.take_up.new.place in
    let came = c.advance-came.result in
    let job = c.in-Some.job in
    let comes : CameOf eq m veq job came = came_of_job eq m veq came job c.advance-came.ensures.step c.advance-came.ensures.refused in
    let did : DoesJob eq m veq (seated c.seat.inside.pass c.seat.inside.place) now = record {
      mid = mid;
      job = job;
      came = came;
      comes = comes;
      gets = c.in-Some.ensures.some;
      home = over_so eq m mid now (ComesHome eq m veq came) (λ a b. ComesHome eq m veq came a b × (IsJobOut eq b job → ⊥)) c.take_up.ensures.home (λ a b h. (h, job_home eq m veq came job a b comes h));
    } in
    subst (λ z. DoesJob eq m veq z now) c.seat.view_is did
