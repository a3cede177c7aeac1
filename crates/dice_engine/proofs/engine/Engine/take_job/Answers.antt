use Rattle.std.proofs.Common.{rules, ◌≡◌, [], ap, ◌∙◌, subst}
use Rattle.dice_core.specs.Cores.{events_of}
use Rattle.turnstile.specs.InTurn.{seat_in}
use Rattle.dice_engine.proofs.Turned.{entered, did_so, may_leave_tasks, lined_adds}
use Rattle.dice_engine.proofs.Jobs.{turned_over}
use Rattle.dice_engine.specs.Seats.{seated}
use Rattle.dice_engine.specs.Calls.{AddsNothing}
use Rattle.dice_engine.specs.Jobs.{GoesOut}
use Rattle.dice_engine.specs.Doings.{TurnOver}
use Rattle.dice_engine.proofs.engine.Engine.take_job.Goals as goal

pub leave-requires-clause-grows : goal.leave-requires-clause-grows
leave-requires-clause-grows g c =
    let eq = g.U.Key.PartialEq.eq in
    let m = g.U.Universe.meaning in
    let old = c.args.place.now in
    let mid = seat_in c.enter-turn.result in
    let J = events_of c.state-state.result.now.bench.value.core in
    let e = entered eq m old mid (events_of c.enter-turn.result.state.bench.value.core) J (ap (λ s. events_of s.bench.value.core) c.state-state.ensures.value) c.enter-turn.ensures.turn c.enter-turn.ensures.seen c.enter-turn.ensures.mine c.enter-turn.ensures.floor in
    let a = lined_adds eq m 0 J _ _ AddsNothing c.line_up.ensures.events c.take_job-job.ensures.adds in
    may_leave_tasks eq m old mid J (events_of c.line_up.new.self.bench.value.core) 0 AddsNothing e a a.did.0

pub returns-clause-goes : goal.returns-clause-goes
returns-clause-goes g c =
    let eq = g.U.Key.PartialEq.eq in
    let m = g.U.Universe.meaning in
    let old = c.args.place.now in
    let mid = seat_in c.enter-turn.result in
    let found = c.state-state.result.now.bench.value.core in
    let done = c.take_job-job.new.self.bench.value.core in
    let left = c.line_up.new.self.bench.value.core in
    let e = entered eq m old mid (events_of c.enter-turn.result.state.bench.value.core) (events_of found) (ap (λ s. events_of s.bench.value.core) c.state-state.ensures.value) c.enter-turn.ensures.turn c.enter-turn.ensures.seen c.enter-turn.ensures.mine c.enter-turn.ensures.floor in
    let a = did_so eq m 0 (events_of found) (events_of done) AddsNothing (λ own work. own ≡ []) c.take_job-job.ensures.adds (λ own work d. d.0) in
    subst (λ s. TurnOver eq m (seated c.args.pass.now old) (seated c.args.pass.now s) (GoesOut eq c.take_job-job.result)) {x = c.leave.new.turn.0} {y = c.place-1.given.0} (search rules)
    (turned_over eq m old mid c.leave.new.turn.0 found done left c.args.pass.now (GoesOut eq c.take_job-job.result) 0 _ _ _ e (record { seen = c.leave.ensures.seen; mine = c.leave.ensures.mine; turns = c.leave.ensures.turns; floor = c.leave.ensures.floor; below = c.leave.ensures.below; noted = c.leave.ensures.noted; same = c.leave.ensures.same }) a c.line_up.ensures.events (c.leave.ensures.left ∙ c.line_up.ensures.counts) c.line_up.ensures.rests c.take_job-job.ensures.goes c.line_up.ensures.lines_up)
