use Rattle.std.proofs.Common.{ap}
use Rattle.dice_core.specs.Cores.{events_of}
use Rattle.turnstile.specs.InTurn.{seat_in}
use Rattle.dice_engine.specs.Calls.{AddsNothing}
use Rattle.dice_engine.proofs.Turned.{entered, may_leave_tasks}
use Rattle.dice_engine.proofs.Adding.{nothing}
use Rattle.dice_engine.proofs.engine.Engine.seated.Goals as goal

pub leave-requires-clause-grows : goal.leave-requires-clause-grows
leave-requires-clause-grows g c =
    let eq = g.U.Key.PartialEq.eq in
    let m = g.U.Universe.meaning in
    let old = c.args.place in
    let mid = seat_in c.enter-turn.result in
    let J = events_of c.state-state.result.now.bench.value.core in
    let I = events_of c.pass-pass.new.self.bench.value.core in
    let e = entered eq m old mid (events_of c.enter-turn.result.state.bench.value.core) J (ap (λ s. events_of s.bench.value.core) c.state-state.ensures.value) c.enter-turn.ensures.turn c.enter-turn.ensures.seen c.enter-turn.ensures.mine c.enter-turn.ensures.floor in
    let a = nothing eq m J I c.pass-pass.ensures.lawful 0 (ap events_of c.pass-pass.ensures.core) in
    may_leave_tasks eq m old mid J I 0 AddsNothing e a a.did.0
