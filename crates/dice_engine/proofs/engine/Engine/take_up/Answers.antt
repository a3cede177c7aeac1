use Rattle.std.proofs.Common.{rules, ◌≡◌, [], ap, ◌∙◌, sym, subst}
use Rattle.dice_core.specs.Cores.{events_of}
use Rattle.turnstile.specs.InTurn.{seat_in}
use Rattle.dice_engine.specs.Seats.{seated}
use Rattle.dice_engine.specs.Jobs.{ComesHome}
use Rattle.dice_engine.specs.Doings.{TakesIn}
use Rattle.dice_engine.proofs.Turned.{entered, may_leave_tasks, lined_adds}
use Rattle.dice_engine.proofs.Adding.{map_if_ok}
use Rattle.dice_engine.proofs.Lining.{known_later}
use Rattle.dice_engine.proofs.Jobs.{turned_over}
use Rattle.dice_engine.proofs.engine.Engine.take_up.Goals as goal

pub take_up-requires-clause-known : goal.take_up-requires-clause-known
take_up-requires-clause-known g c κs within =
    let eq = g.U.Key.PartialEq.eq in
    let m = g.U.Universe.meaning in
    let old = c.args.place.now in
    let mid = seat_in c.enter-turn.result in
    let J = events_of c.state-state.result.now.bench.value.core in
    let e = entered eq m old mid (events_of c.enter-turn.result.state.bench.value.core) J (ap (λ s. events_of s.bench.value.core) c.state-state.ensures.value) c.enter-turn.ensures.turn c.enter-turn.ensures.seen c.enter-turn.ensures.mine c.enter-turn.ensures.floor in
    map_if_ok c.args.came _ _ c.requires.known (λ s h. known_later eq m c.true_jobs_are_one.ensures.longer old.seen J c.args.pass.now.seen s.job e.begins h)

pub leave-requires-clause-grows : goal.leave-requires-clause-grows
leave-requires-clause-grows g c =
    let eq = g.U.Key.PartialEq.eq in
    let m = g.U.Universe.meaning in
    let old = c.args.place.now in
    let mid = seat_in c.enter-turn.result in
    let J = events_of c.state-state.result.now.bench.value.core in
    let e = entered eq m old mid (events_of c.enter-turn.result.state.bench.value.core) J (ap (λ s. events_of s.bench.value.core) c.state-state.ensures.value) c.enter-turn.ensures.turn c.enter-turn.ensures.seen c.enter-turn.ensures.mine c.enter-turn.ensures.floor in
    let a = lined_adds eq m 0 J _ _ (λ own work. own ≡ []) c.line_up.ensures.events c.take_up.ensures.adds in
    may_leave_tasks eq m old mid J (events_of c.line_up.new.self.bench.value.core) 0 (λ own work. own ≡ []) e a a.did

pub returns-clause-home : goal.returns-clause-home
returns-clause-home g c =
    let eq = g.U.Key.PartialEq.eq in
    let m = g.U.Universe.meaning in
    let veq = g.U.Value.PartialEq.eq in
    let old = c.args.place.now in
    let mid = seat_in c.enter-turn.result in
    let found = c.state-state.result.now.bench.value.core in
    let done = c.take_up.new.self.bench.value.core in
    let left = c.line_up.new.self.bench.value.core in
    let e = entered eq m old mid (events_of c.enter-turn.result.state.bench.value.core) (events_of found) (ap (λ s. events_of s.bench.value.core) c.state-state.ensures.value) c.enter-turn.ensures.turn c.enter-turn.ensures.seen c.enter-turn.ensures.mine c.enter-turn.ensures.floor in
    subst (λ p. TakesIn eq m veq c.args.came (seated c.args.pass.now old) (seated p c.place-1.given.0)) (sym c.take_up.ensures.pass)
    (subst (λ s. TakesIn eq m veq c.args.came (seated c.args.pass.now old) (seated c.args.pass.now s)) {x = c.leave.new.turn.0} {y = c.place-1.given.0} (search rules)
    (turned_over eq m old mid c.leave.new.turn.0 found done left c.args.pass.now (ComesHome eq m veq c.args.came) 0 _ _ _ e (record { seen = c.leave.ensures.seen; mine = c.leave.ensures.mine; turns = c.leave.ensures.turns; floor = c.leave.ensures.floor; below = c.leave.ensures.below; noted = c.leave.ensures.noted; same = c.leave.ensures.same }) c.take_up.ensures.adds c.line_up.ensures.events (c.leave.ensures.left ∙ c.line_up.ensures.counts) c.line_up.ensures.rests c.take_up.ensures.home c.line_up.ensures.lines_up))
