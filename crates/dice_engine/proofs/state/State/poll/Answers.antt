use Rattle.std.proofs.Common.{◌≡◌, ◌<◌, Some, sym, refl, ◌∙◌, subst}
use Rattle.std.specs.Prelude.{reverse}
use Rattle.std.specs.Arc.{arc_value}
use Rattle.injected.specs.Seen.{cell_at}
use Rattle.journal.specs.Events.{Opened, Asking, open_at, live_at}
use Rattle.journal.specs.Law.{IsLawfulJournal}
use Rattle.dice_core.specs.Cores.{CoreSeen, came_of, events_of, held_to, held_in}
use Rattle.dice_engine.specs.Turns.{left_of}
use Rattle.dice_engine.specs.Replies.{reply_of, IsReply}
use Rattle.dice_engine.specs.Doings.{RestsByJournal}
use Rattle.dice_engine.proofs.Replying.{asking_of, opened_there, some_open, injected_value, told_so}
use Rattle.dice_engine.proofs.Lining.{core_same}
use Rattle.dice_engine.proofs.state.State.poll.Goals as goal

pub answer_of-requires-after_bounds : goal.answer_of-requires-after_bounds
answer_of-requires-after_bounds g c κs within = λ e.
    let eq = g.U.Key.PartialEq.eq in
    let m = g.U.Universe.meaning in
    let J = events_of c.bench.inside.core in
    let p = c.args.promise.now in
    let asked = subst
    (λ (s : CoreSeen g.row.U-Key.Denot g.row.U-Value.Denot). IsLawfulJournal eq m (events_of s) → (a : Asking g.row.U-Key.Denot) → live_at (reverse (events_of s)) p.ask ≡ Some a → (a.opened ≡ p.opened) × (a.key ≡ arc_value p.key) × ((o : Opened) → open_at (reverse (events_of s)) a.opened ≡ Some o → o.version ≡ p.version))
    (sym (core_same (c.bench.view_is ∙ c.deref-bench.ensures))) c.requires in
    let a = asking_of eq m J c.in_order.ensures.lawful p.version p.ask (sym c.if-not-stands.ensures) in
    let r = asked c.in_order.ensures.lawful a.0 a.1 in
    c.poll.ensures.asked p.ask a.0 a.1 (opened_there eq m J c.in_order.ensures.lawful p.version p.ask a.0 a.1 r.2) r.1 e

pub returns-clause-reply : goal.returns-clause-reply
returns-clause-reply g c =
    let eq = g.U.Key.PartialEq.eq in
    let m = g.U.Universe.meaning in
    let core = c.bench.inside.core in
    let J = events_of core in
    let p = c.args.promise.now in
    let k = arc_value p.key in
    let live = sym c.if-not-stands.ensures in
    let asked = subst
    (λ (s : CoreSeen g.row.U-Key.Denot g.row.U-Value.Denot). IsLawfulJournal eq m (events_of s) → (a : Asking g.row.U-Key.Denot) → live_at (reverse (events_of s)) p.ask ≡ Some a → (a.opened ≡ p.opened) × (a.key ≡ k) × ((o : Opened) → open_at (reverse (events_of s)) a.opened ≡ Some o → o.version ≡ p.version))
    (sym (core_same (c.bench.view_is ∙ c.deref-bench.ensures))) c.requires in
    let a = asking_of eq m J c.in_order.ensures.lawful p.version p.ask live in
    let some = some_open eq m J c.in_order.ensures.lawful p.version p.ask a.0 a.1 (asked c.in_order.ensures.lawful a.0 a.1).2 in
    let counted = subst (λ n. 0 < n) (sym (c.in_order.ensures.counts p.version)) some in
    subst
    (λ (s : CoreSeen g.row.U-Key.Denot g.row.U-Value.Denot). IsReply eq m (events_of s) p.version k p.ask (left_of c.args.self.now.mark s) (reply_of c.answer_of.result))
    (core_same (c.bench.view_is ∙ c.deref-bench.ensures))
    (told_so eq m J p.version k p.ask c.args.self.now.mark core.desk.ready core.desk.out live (came_of c.poll.result)
    (λ i. (cell_at eq m core.cells p.version k, c.poll.ensures.exact ∙ injected_value (m.kind k) _ (cell_at eq m core.cells p.version k) (held_to (held_in eq core p.version k)) i counted))
    c.poll.ensures.value c.poll.ensures.cycle (λ i. c.poll.ensures.decided some i) c.poll.ensures.lost c.poll.ensures.quiet
    (came_of c.poll.result) refl (reply_of c.answer_of.result) c.answer_of.ensures)

pub returns-then-not-stands-clause-rests : goal.returns-then-not-stands-clause-rests
returns-then-not-stands-clause-rests g c = subst (λ (s : CoreSeen g.row.U-Key.Denot g.row.U-Value.Denot). RestsByJournal g.U.Key.PartialEq.eq g.U.Universe.meaning s) (core_same (c.bench.view_is ∙ c.deref-bench.ensures)) c.in_order.ensures.rest

pub returns-clause-rests : goal.returns-clause-rests
returns-clause-rests g c = subst (λ (s : CoreSeen g.row.U-Key.Denot g.row.U-Value.Denot). RestsByJournal g.U.Key.PartialEq.eq g.U.Universe.meaning s) (core_same (c.bench.view_is ∙ c.deref-bench.ensures)) c.in_order.ensures.rest
