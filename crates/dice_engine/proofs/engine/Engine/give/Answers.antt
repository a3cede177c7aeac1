use Rattle.std.proofs.Common.{rules, ◌≡◌, [], ◌++◌, ap, sym, ◌∙◌, subst}
use Rattle.std.specs.Arc.{arc_value}
use Rattle.dice_core.specs.Cores.{events_of}
use Rattle.journal.specs.Tell.{event_by}
use Rattle.turnstile.specs.InTurn.{seat_in}
use Rattle.turnstile.proofs.Events.{still_begins}
use Rattle.dice_engine.specs.Seats.{seated}
use Rattle.dice_engine.specs.Turns.{left_of}
use Rattle.dice_engine.specs.Replies.{reply_of, IsReply}
use Rattle.dice_engine.specs.Doings.{TurnOver, GivesAndTells}
use Rattle.dice_engine.proofs.Turned.{entered, may_leave_tasks, lined_adds}
use Rattle.dice_engine.proofs.Adding.{map_if_ok}
use Rattle.dice_engine.proofs.Kept.{saw}
use Rattle.dice_engine.proofs.Lining.{known_later, reply_lined}
use Rattle.dice_engine.proofs.Jobs.{turned_over}
use Rattle.dice_engine.proofs.engine.Engine.give.Goals as goal

pub take_up-requires-clause-known : goal.take_up-requires-clause-known
take_up-requires-clause-known g c κs within =
    let eq = g.U.Key.PartialEq.eq in
    let m = g.U.Universe.meaning in
    let old = c.args.place.now in
    let mid = seat_in c.enter-turn.result in
    let J = events_of c.state-state.result.now.bench.value.core in
    let e = entered eq m old mid (events_of c.enter-turn.result.state.bench.value.core) J (ap (λ s. events_of s.bench.value.core) c.state-state.ensures.value) c.enter-turn.ensures.turn c.enter-turn.ensures.seen c.enter-turn.ensures.mine c.enter-turn.ensures.floor in
    map_if_ok c.args.came _ _ c.requires.known (λ s h. known_later eq m c.true_jobs_are_one.ensures.longer old.seen J c.args.pass.now.seen s.job e.begins h)

pub poll-answer-requires-after_bounds : goal.poll-answer-requires-after_bounds
poll-answer-requires-after_bounds g c κs within = λ lawful a live.
    let eq = g.U.Key.PartialEq.eq in
    let m = g.U.Universe.meaning in
    let old = c.args.place.now in
    let was = seated c.args.pass.now old in
    let mid = seat_in c.enter-turn.result in
    let J = events_of c.state-state.result.now.bench.value.core in
    let I = events_of c.take_up.new.self.bench.value.core in
    let e = entered eq m old mid (events_of c.enter-turn.result.state.bench.value.core) J (ap (λ s. events_of s.bench.value.core) c.state-state.ensures.value) c.enter-turn.ensures.turn c.enter-turn.ensures.seen c.enter-turn.ensures.mine c.enter-turn.ensures.floor in
    let d = c.take_up.ensures.adds in
    let p = c.args.promise.now in
    saw eq m was I (still_begins event_by J I (d.own ++ d.work) old.seen d.journal e.begins) lawful p.ask p.opened p.version (arc_value p.key) c.requires.ask a live

pub leave-requires-clause-grows : goal.leave-requires-clause-grows
leave-requires-clause-grows g c =
    let eq = g.U.Key.PartialEq.eq in
    let m = g.U.Universe.meaning in
    let old = c.args.place.now in
    let mid = seat_in c.enter-turn.result in
    let J = events_of c.state-state.result.now.bench.value.core in
    let e = entered eq m old mid (events_of c.enter-turn.result.state.bench.value.core) J (ap (λ s. events_of s.bench.value.core) c.state-state.ensures.value) c.enter-turn.ensures.turn c.enter-turn.ensures.seen c.enter-turn.ensures.mine c.enter-turn.ensures.floor in
    let a = lined_adds eq m 0 J _ _ (λ own work. own ≡ []) c.line_up.ensures.events c.take_up.ensures.adds in
    may_leave_tasks eq m old mid J (events_of c.line_up.new.self.bench.value.core) 0 (λ own work. own ≡ []) e a a.did

pub returns-clause-home : goal.returns-clause-home
returns-clause-home g c =
    let eq = g.U.Key.PartialEq.eq in
    let m = g.U.Universe.meaning in
    let veq = g.U.Value.PartialEq.eq in
    let old = c.args.place.now in
    let mid = seat_in c.enter-turn.result in
    let found = c.state-state.result.now.bench.value.core in
    let done = c.take_up.new.self.bench.value.core in
    let left = c.line_up.new.self.bench.value.core in
    let over = GivesAndTells eq m veq c.args.promise.now (reply_of c.poll-answer.result) c.args.came in
    let e = entered eq m old mid (events_of c.enter-turn.result.state.bench.value.core) (events_of found) (ap (λ s. events_of s.bench.value.core) c.state-state.ensures.value) c.enter-turn.ensures.turn c.enter-turn.ensures.seen c.enter-turn.ensures.mine c.enter-turn.ensures.floor in
    subst (λ p. TurnOver eq m (seated c.args.pass.now old) (seated p c.place-1.given.0) over) (sym c.take_up.ensures.pass)
    (subst (λ s. TurnOver eq m (seated c.args.pass.now old) (seated c.args.pass.now s) over) {x = c.leave.new.turn.0} {y = c.place-1.given.0} (search rules)
    (turned_over eq m old mid c.leave.new.turn.0 found done left c.args.pass.now over 0 _ _ _ e (record { seen = c.leave.ensures.seen; mine = c.leave.ensures.mine; turns = c.leave.ensures.turns; floor = c.leave.ensures.floor; below = c.leave.ensures.below; noted = c.leave.ensures.noted; same = c.leave.ensures.same }) c.take_up.ensures.adds c.line_up.ensures.events (c.leave.ensures.left ∙ c.line_up.ensures.counts) c.line_up.ensures.rests (c.take_up.ensures.home, c.poll-answer.ensures.exact) c.line_up.ensures.lines_up))

pub returns-clause-reply : goal.returns-clause-reply
returns-clause-reply g c =
    let eq = g.U.Key.PartialEq.eq in
    let m = g.U.Universe.meaning in
    let p = c.args.promise.now in
    let k = arc_value p.key in
    let r = reply_of c.poll-answer.result in
    let done = c.take_up.new.self.bench.value.core in
    let left = c.line_up.new.self.bench.value.core in
    let mark = c.line_up.new.self.mark in
    subst (λ s. IsReply eq m s.seen p.version k p.ask s.left r) {x = c.leave.new.turn.0} {y = c.place-1.given.0} (search rules)
    (subst (λ l. IsReply eq m c.leave.new.turn.0.seen p.version k p.ask l r) (sym (c.leave.ensures.left ∙ c.line_up.ensures.counts))
    (subst (λ J. IsReply eq m J p.version k p.ask (left_of mark left) r) (sym (c.leave.ensures.seen ∙ c.line_up.ensures.events))
    (reply_lined eq m (events_of done) p.version k p.ask _ _ done left c.take_up.new.self.mark mark r c.line_up.ensures.lines_up c.poll-answer.ensures.reply)))
