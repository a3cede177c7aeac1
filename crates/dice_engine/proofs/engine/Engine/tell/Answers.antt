use Rattle.std.proofs.Common.{◌≡◌, rules, ap, sym, ◌∙◌, subst}
use Rattle.dice_core.specs.Cores.{events_of}
use Rattle.turnstile.specs.InTurn.{seat_in}
use Rattle.dice_engine.specs.Seats.{seated}
use Rattle.dice_engine.specs.Turns.{Turn}
use Rattle.dice_engine.specs.Calls.{AddsNothing}
use Rattle.dice_engine.proofs.Turned.{entered, may_leave_tasks, lined_adds, turned_any}
use Rattle.dice_engine.specs.Rows.{ShelfHas}
use Rattle.dice_engine.proofs.Adding.{nothing}
use Rattle.dice_engine.proofs.Shelved.{told_so, same_refusals, mark_is}
use Rattle.dice_engine.proofs.engine.Engine.tell.Goals as goal

pub leave-requires-clause-grows : goal.leave-requires-clause-grows
leave-requires-clause-grows g c =
    let eq = g.U.Key.PartialEq.eq in
    let m = g.U.Universe.meaning in
    let old = c.seat.inside.place in
    let mid = seat_in c.enter-turn.result in
    let J = events_of c.state-state.result.now.bench.value.core in
    let e = entered eq m old mid (events_of c.enter-turn.result.state.bench.value.core) J (ap (λ s. events_of s.bench.value.core) c.state-state.ensures.value) c.enter-turn.ensures.turn c.enter-turn.ensures.seen c.enter-turn.ensures.mine c.enter-turn.ensures.floor in
    let H = events_of c.tell-told.new.self.bench.value.core in
    let I = events_of c.line_up.new.self.bench.value.core in
    let a = lined_adds eq m 0 J H I AddsNothing c.line_up.ensures.events (nothing eq m J H c.tell-told.ensures.lawful 0 (ap events_of c.tell-told.ensures.core)) in
    may_leave_tasks eq m old mid J I 0 AddsNothing e a a.did.0

pub returns-clause-turn : goal.returns-clause-turn
returns-clause-turn g c =
    let eq = g.U.Key.PartialEq.eq in
    let m = g.U.Universe.meaning in
    let old = c.seat.inside.place in
    let mid = seat_in c.enter-turn.result in
    let J = events_of c.state-state.result.now.bench.value.core in
    let e = entered eq m old mid (events_of c.enter-turn.result.state.bench.value.core) J (ap (λ s. events_of s.bench.value.core) c.state-state.ensures.value) c.enter-turn.ensures.turn c.enter-turn.ensures.seen c.enter-turn.ensures.mine c.enter-turn.ensures.floor in
    let H = events_of c.tell-told.new.self.bench.value.core in
    let I = events_of c.line_up.new.self.bench.value.core in
    let a = lined_adds eq m 0 J H I AddsNothing c.line_up.ensures.events (nothing eq m J H c.tell-told.ensures.lawful 0 (ap events_of c.tell-told.ensures.core)) in
    subst (λ s. Turn eq m s (seated c.seat.inside.pass c.leave.new.turn.0) (λ found. AddsNothing)) c.seat.view_is
    (turned_any eq m old mid J I c.seat.inside.pass c.leave.new.turn.0 (λ found. AddsNothing) 0 e (record { seen = c.leave.ensures.seen; mine = c.leave.ensures.mine; turns = c.leave.ensures.turns; floor = c.leave.ensures.floor; below = c.leave.ensures.below; noted = c.leave.ensures.noted; same = c.leave.ensures.same }) a a.did.0)

pub returns-clause-told : goal.returns-clause-told
returns-clause-told g c = λ yes free.
    let I = events_of c.tell-told.new.self.bench.value.core in
    let zero : c.leave.new.turn.0.left.2 ≡ 0 = search rules in
    let mark : c.tell-told.new.self.mark ≡ 0 = sym c.line_up.ensures.mark ∙ (sym (mark_is c.leave.new.turn.0.left c.line_up.new.self.mark c.line_up.new.self.bench.value.core (c.leave.ensures.left ∙ c.line_up.ensures.counts)) ∙ zero) in
    let p = told_so I (c.tell-told.new.self.mark ≡ 0) mark c.tell-told.result c.args.reader.now c.learned.new.reader c.learned.ensures c.tell-told.ensures.told (c.tell-told.ensures.some mark) free in
    let seen : ShelfHas c.leave.new.turn.0.seen c.learned.new.reader.seen = subst (λ J. ShelfHas J c.learned.new.reader.seen) (sym (c.leave.ensures.seen ∙ c.line_up.ensures.events)) p in
    seen

pub returns-clause-refused : goal.returns-clause-refused
returns-clause-refused g c = same_refusals c.tell-told.result c.args.reader.now c.learned.new.reader c.learned.ensures
