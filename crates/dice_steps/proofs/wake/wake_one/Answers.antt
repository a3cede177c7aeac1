use Rattle.std.proofs.Common.{◌∙◌, sym, ap, subst}
use Rattle.std.proofs.lemmas.Option.{none-some}
use Rattle.std.specs.Prelude.{option_and_then}
use Rattle.std.specs.Arc.{arc_value}
use Rattle.task_share.specs.Seen.{Share, task_at}
use Rattle.dice_tasks.specs.Helds.{Held}
use Rattle.dice_tasks.specs.Shelves.{place_of}
use Rattle.dice_tasks.specs.Waitings.{Wakes, WakesOne}
use Rattle.dice_steps.proofs.WakeLemmas.{wakes_so, waits_still}
use Rattle.dice_steps.proofs.wake.wake_one.Goals as goal
use Rattle.lists.specs.Lists.{Has}

pub unreachable-requires : goal.unreachable-requires
unreachable-requires g c =
    let none = ap (option_and_then (λ (p : Share g.row.U-Key.Denot (Held g.row.U-Key.Denot g.row.U-Value.Denot)). p.task)) c.in_default.ensures.none in
    let key = ap (λ (z : Wakes g.row.U-Key.Denot g.row.U-Value.Denot). z.place.1) c.woken.view_is in
    none-some c.requires.waits.0 (sym none ∙ (ap (task_at g.U.Key.PartialEq.eq c.args.tasks.now) key ∙ c.requires.waits.1))

pub leave_numbered-requires-clause-key : goal.leave_numbered-requires-clause-key
leave_numbered-requires-clause-key g c = c.requires.asked

pub leave_numbered-requires-clause-asker : goal.leave_numbered-requires-clause-asker
leave_numbered-requires-clause-asker g c = (arc_value c.woken.inside.ready.key, c.in-Some.ensures.some)

pub resume-requires-after_bounds : goal.resume-requires-after_bounds
resume-requires-after_bounds g c κs within =
    let r = waits_still g.U.Key.PartialEq.eq c.laws_of.ensures.keys c.args.woken (record { place = place_of c.woken.inside.ready; ahead = c.woken.inside.next }) c.woken.view_is c.args.tasks.now _ c.leave_numbered.ensures.tasks c.requires.waits in
    (arc_value c.woken.inside.ready.key, r.0, c.leave_numbered.ensures.numbers c.in-Some.number ∙ c.in-Some.ensures.some, r.1, r.2)

pub readied-requires-clause-ready : goal.readied-requires-clause-ready
readied-requires-clause-ready g c κs within = subst (λ p. Has c.args.desk.now.ready p → ⊥) (sym (ap (λ (z : Wakes g.row.U-Key.Denot g.row.U-Value.Denot). z.place) c.woken.view_is)) c.requires.ready

pub readied-requires-clause-out : goal.readied-requires-clause-out
readied-requires-clause-out g c κs within = subst (λ p. Has c.args.desk.now.out p → ⊥) (sym (ap (λ (z : Wakes g.row.U-Key.Denot g.row.U-Value.Denot). z.place) c.woken.view_is)) c.requires.out

pub returns-clause-woken : goal.returns-clause-woken
returns-clause-woken g c k at =
    let j = arc_value c.woken.inside.ready.key in
    let t = c.resume.ensures.turned j (c.leave_numbered.ensures.numbers c.in-Some.number ∙ c.in-Some.ensures.some) in
    subst (λ (z : Wakes g.row.U-Key.Denot g.row.U-Value.Denot). WakesOne g.U.Key.PartialEq.eq k z c.args.tasks.now c.resume.new.tasks c.args.desk.now c.readied.new.self) c.woken.view_is
    (wakes_so g.U.Key.PartialEq.eq c.laws_of.ensures.keys k (record { place = place_of c.woken.inside.ready; ahead = c.woken.inside.next }) t.0 c.args.tasks.now _ _ _ _ c.leave_numbered.ensures.tasks (c.leave_numbered.ensures.asks k j at c.in-Some.ensures.some) t.1 c.readied.ensures)

pub returns-clause-numbers : goal.returns-clause-numbers
returns-clause-numbers g c n = c.resume.ensures.numbers n ∙ c.leave_numbered.ensures.numbers n
