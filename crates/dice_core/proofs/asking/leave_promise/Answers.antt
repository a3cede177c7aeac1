use Rattle.std.proofs.Common.{◌≡◌, ◌++◌, ◌∷◌, [], not, cond, ◌&&◌, map, reverse, Some, None, sym, ap, ◌∙◌, subst, append_assoc}
use Rattle.std.specs.Arc.{arc_value}
use Rattle.std.specs.List.{list_any}
use Rattle.task_share.specs.Asked.{Promised, is_by}
use Rattle.task_share.specs.Seen.{asks, asked_of}
use Rattle.journal.specs.declared.event.Told.TheVariants.{Leave, Drop}
use Rattle.journal.specs.Events.{ended_at}
use Rattle.dice_tasks.specs.Hands.{DeskSeen, Cleaning}
use Rattle.dice_tasks.specs.Endings.{DropsTasks}
use Rattle.dice_core.proofs.AskingLemmas.{dropped_live, left_cleaning, left_tasked, in_hand_again}
use Rattle.dice_tasks.proofs.Dropped.{cascade_distinct}
use Rattle.dice_tasks.proofs.EntriesLemmas.{stand_leave}
use Rattle.dice_core.proofs.asking.leave_promise.Goals as goal
use Rattle.std.proofs.lemmas.Bool.{and_parts}

pub cascade-requires-clause-cleaning : goal.cascade-requires-clause-cleaning
cascade-requires-clause-cleaning g c κs within =
    let h = c.requires.hand in
    let eq = g.U.Key.PartialEq.eq in
    (h.1.0, h.0, subst (λ z. Cleaning eq g.U.Universe.meaning c.args.version h.1.0 h.0 c.leave.new.self z) (sym c.push.ensures) (left_cleaning eq c.laws_of.ensures.keys g.U.Universe.meaning c.laws_of.ensures.lawful c.args.version (arc_value c.args.key.now) c.args.by c.args.ask h.0 _ _ _ c.leave.ensures.tasks c.leave.ensures.asks c.requires.asked h.1.0 h.1.3.working).0)

pub cascade-requires-clause-after : goal.cascade-requires-clause-after
cascade-requires-clause-after g c κs within =
    let h = c.requires.hand in
    let eq = g.U.Key.PartialEq.eq in
    subst (λ (z : DeskSeen g.row.U-Key.Denot g.row.U-Value.Denot). ended_at (reverse z.events) ≡ Some c.args.version) (sym c.push.ensures) (left_cleaning eq c.laws_of.ensures.keys g.U.Universe.meaning c.laws_of.ensures.lawful c.args.version (arc_value c.args.key.now) c.args.by c.args.ask h.0 _ c.leave.new.self _ c.leave.ensures.tasks c.leave.ensures.asks c.requires.asked h.1.0 h.1.3.working).1

pub returns-clause-log : goal.returns-clause-log
returns-clause-log g c =
    let d = c.cascade.ensures.dropped in (
      d.0,
      record {
        events = d.1.events ∙ (ap (λ (z : DeskSeen g.row.U-Key.Denot g.row.U-Value.Denot). z.events ++ map (Drop c.args.version) d.0) c.push.ensures ∙ append_assoc c.args.desk.now.events (Leave c.args.by c.args.ask ∷ []) (map (Drop c.args.version) d.0));
        distinct = cascade_distinct g.U.Key.PartialEq.eq c.laws_of.ensures.keys d.0 (asked_of g.U.Key.PartialEq.eq c.leave.new.self) (asked_of g.U.Key.PartialEq.eq c.cascade.new.tasks) d.1.cascade;
        at_work = λ q h. sym (c.leave.ensures.tasks.live q) ∙ dropped_live g.U.Key.PartialEq.eq d.0 (asked_of g.U.Key.PartialEq.eq c.leave.new.self) (asked_of g.U.Key.PartialEq.eq c.cascade.new.tasks) d.1.cascade q h;
        tasks = λ q. d.1.tasks q ∙ ap (λ o. cond (list_any (g.U.Key.PartialEq.eq q) d.0) None o) (c.leave.ensures.tasks.tasks q);
      },
    )

pub returns-clause-kept : goal.returns-clause-kept
returns-clause-kept g c = λ w owed es s h.
    let eq = g.U.Key.PartialEq.eq in
    let m = g.U.Universe.meaning in
    let d = c.cascade.ensures.dropped in
    let keep = left_cleaning eq c.laws_of.ensures.keys m c.laws_of.ensures.lawful c.args.version (arc_value c.args.key.now) c.args.by c.args.ask owed _ c.leave.new.self _ c.leave.ensures.tasks c.leave.ensures.asks c.requires.asked w h.working in
    let cleaning = subst (λ z. Cleaning eq m c.args.version w owed c.leave.new.self z) (sym c.push.ensures) keep.0 in
    in_hand_again eq c.laws_of.ensures.keys m c.laws_of.ensures.lawful c.args.version (Leave c.args.by c.args.ask) d.0 owed c.leave.new.self c.cascade.new.tasks c.args.desk.now c.cascade.new.desk es s w
    (subst (λ z. DropsTasks eq c.args.version d.0 c.leave.new.self c.cascade.new.tasks z c.cascade.new.desk) c.push.ensures d.1) h.told (stand_leave eq m (reverse c.args.desk.now.events) es h.entries c.args.by c.args.ask)
    (record { are = h.cells.are; newest = h.cells.newest }) h.opened
    (c.cascade.ensures.kept w owed cleaning)
    (c.cascade.ensures.tasked (left_tasked eq c.laws_of.ensures.keys m c.laws_of.ensures.lawful c.args.version _ c.leave.new.self c.leave.ensures.tasks (λ q a i. (and_parts (asks eq c.args.tasks.now q a) (not (eq (arc_value c.args.key.now) q && is_by eq (Promised c.args.ask) a)) (sym (c.leave.ensures.asks q a) ∙ i)).0) h.tasked))
    c.cascade.ensures.done
