use Rattle.std.proofs.Common.{◌++◌, ◌∷◌, [], List, Option, reverse, refl, sym, ap, ◌∙◌, subst, arith}
use Rattle.std.proofs.lemmas.List.{append-nil}
use Rattle.std.specs.Prelude.{IsSome, option_to_list, option_and_then}
use Rattle.std.specs.Option.{option_map}
use Rattle.std.proofs.lemmas.Option.{none-some}
use Rattle.core_laws.specs.Tasks.{value_of}
use Rattle.task_share.specs.Seen.{Share}
use Rattle.dice_tasks.specs.Helds.{Held, task_of}
use Rattle.std.specs.Arc.{arc_value}
use Rattle.journal.specs.declared.event.Told.{Told}
use Rattle.task_share.specs.Asked.{Tasked}
use Rattle.dice_tasks.specs.Waitings.{MayWake}
use Rattle.dice_steps.proofs.WakeLemmas.{wakes_on, wakes_rest, not_at_hand, one_fewer, last_here, all_woken, still_waits, released_so, told_all}
use Rattle.dice_steps.proofs.WakesLemmas.{next_is_new, comes_next, none_woken, all_came, one_woken, one_told, same_woken, tasked_woken, tasked_told}
use Rattle.dice_tasks.proofs.TaskedLemmas.{tasked_same}
use Rattle.dice_steps.proofs.wake.wake.Goals as goal
use Rattle.lists.proofs.Members.{none_left}

pub unreachable-requires : goal.unreachable-requires
unreachable-requires g c =
    let x = c.requires.may.5.value in
    let none = ap (option_and_then (λ (p : Share g.row.U-Key.Denot (Held g.row.U-Key.Denot g.row.U-Value.Denot)). p.task)) c.in_default.ensures.none in
    none-some x.0 (sym (ap (λ (o : Option (Held g.row.U-Key.Denot g.row.U-Value.Denot)). value_of (option_map task_of o)) none) ∙ x.1)

pub wake_one-requires-clause-asked : goal.wake_one-requires-clause-asked
wake_one-requires-clause-asked g c l o = (arc_value c.args.key.now, c.ready.invariant.named)

pub take_asker_numbered-requires : goal.take_asker_numbered-requires
take_asker_numbered-requires g c = (arc_value c.args.key.now, c.others.invariant.named)

pub ready-init : goal.ready-init
ready-init g c = record { kept = λ v W w owed work may. (work, may); room = c.requires.room; events = refl; woken = ([], sym (append-nil c.args.woken.items), none_woken g.U.Key.PartialEq.eq c.laws_of.ensures.keys (arc_value c.args.key.now) _ _); tasked = λ t. t; named = c.in-Some.ensures.some }

pub wake_one-requires-clause-waits : goal.wake_one-requires-clause-waits
wake_one-requires-clause-waits g c l o =
    let r = c.requires.may in
    let s = c.ready.invariant.kept r.0 r.1 r.2 r.3 r.4 r.5 in
    let i = s.1.each c.in-Some-pop.woken (last_here c.pop.new.self.items c.ready.rest.items c.in-Some-pop.woken (c.pop.ensures.items ∙ ap (λ z. c.pop.new.self.items ++ option_to_list z) c.in-Some-pop.is)) in
    (i.held, i.was, i.follows)

pub wake_one-requires-clause-ready : goal.wake_one-requires-clause-ready
wake_one-requires-clause-ready g c l o =
    let r = c.requires.may in
    let s = c.ready.invariant.kept r.0 r.1 r.2 r.3 r.4 r.5 in
    let i = s.1.each c.in-Some-pop.woken (last_here c.pop.new.self.items c.ready.rest.items c.in-Some-pop.woken (c.pop.ensures.items ∙ ap (λ z. c.pop.new.self.items ++ option_to_list z) c.in-Some-pop.is)) in
    (not_at_hand g.U.Key.PartialEq.eq c.laws_of.ensures.keys g.U.Universe.meaning r.0 (arc_value c.args.key.now) c.in-Some-pop.woken _ _ i _ r.2 r.3 s.0).0

pub wake_one-requires-clause-out : goal.wake_one-requires-clause-out
wake_one-requires-clause-out g c l o =
    let r = c.requires.may in
    let s = c.ready.invariant.kept r.0 r.1 r.2 r.3 r.4 r.5 in
    let i = s.1.each c.in-Some-pop.woken (last_here c.pop.new.self.items c.ready.rest.items c.in-Some-pop.woken (c.pop.ensures.items ∙ ap (λ z. c.pop.new.self.items ++ option_to_list z) c.in-Some-pop.is)) in
    (not_at_hand g.U.Key.PartialEq.eq c.laws_of.ensures.keys g.U.Universe.meaning r.0 (arc_value c.args.key.now) c.in-Some-pop.woken _ _ i _ r.2 r.3 s.0).1

pub wake_one-requires-clause-room : goal.wake_one-requires-clause-room
wake_one-requires-clause-room g c l o =
    let e = one_fewer c.pop.new.self.items c.ready.rest.items c.in-Some-pop.woken (c.pop.ensures.items ∙ ap (λ z. c.pop.new.self.items ++ option_to_list z) c.in-Some-pop.is) in
    let r = c.ready.invariant.room in
    omega arith

pub ready-preserved : goal.ready-preserved
ready-preserved g c =
    let eq = g.U.Key.PartialEq.eq in
    let m = g.U.Universe.meaning in
    let k = arc_value c.args.key.now in
    let split = c.pop.ensures.items ∙ ap (λ z. c.pop.new.self.items ++ option_to_list z) c.in-Some-pop.is in
    let one = c.wake_one.ensures.woken k c.ready.invariant.named in
    record {
      kept = λ v W w owed work may. (
          let s = c.ready.invariant.kept v W w owed work may in
          let i = s.1.each c.in-Some-pop.woken (last_here c.pop.new.self.items c.ready.rest.items c.in-Some-pop.woken split) in (
            wakes_on eq c.laws_of.ensures.keys m c.laws_of.ensures.lawful k c.in-Some-pop.woken _ _ _ _ one v i (k ∷ W) w owed s.0,
            subst (λ (es : List (Told g.row.U-Key.Denot g.row.U-Value.Denot)). MayWake eq m (reverse es) v k c.pop.new.self.items c.wake_one.new.tasks) (sym one.desk.rest.events)
                (wakes_rest eq c.laws_of.ensures.keys m c.laws_of.ensures.lawful k c.in-Some-pop.woken _ _ _ _ one _ v c.pop.new.self.items c.ready.rest.items split s.1),
          ));
      room = (let e = one_fewer c.pop.new.self.items c.ready.rest.items c.in-Some-pop.woken split in let r = c.ready.invariant.room in let d = one.desk.room in omega arith);
      events = one.desk.rest.events ∙ c.ready.invariant.events;
      woken = (
          let r = c.requires.may in
          let i = c.ready.invariant.woken in
          let all = comes_next c.pop.new.self.items i.0 c.ready.rest.items c.args.woken.items c.in-Some-pop.woken i.1 split in
          (c.in-Some-pop.woken ∷ i.0, all, one_woken eq c.laws_of.ensures.keys k i.0 _ _ _ _ _ i.2 c.in-Some-pop.woken _ one (next_is_new c.pop.new.self.items i.0 c.args.woken.items c.in-Some-pop.woken all r.5.distinct)));
      tasked = λ t. tasked_woken eq c.laws_of.ensures.keys k c.in-Some-pop.woken _ _ _ _ one (c.ready.invariant.tasked t);
      named = c.wake_one.ensures.numbers c.in-Some.number ∙ c.ready.invariant.named;
    }

pub others-init : goal.others-init
others-init g c = record {
  kept = λ v W w owed work may. (
      let s = c.ready.invariant.kept v W w owed work may in
      (s.0, all_woken g.U.Key.PartialEq.eq c.laws_of.ensures.keys g.U.Universe.meaning _ v (arc_value c.args.key.now) _ c.ready.rest.items (none_left c.ready.rest.items (λ lt. let z = subst IsSome c.in_default-pop.is (c.pop.ensures.variant.1 (omega arith)) in cc)) s.1));
  woken = (
      let i = c.ready.invariant.woken in
      let none = none_left c.ready.rest.items (λ lt. let z = subst IsSome c.in_default-pop.is (c.pop.ensures.variant.1 (omega arith)) in cc) in
      all_came g.U.Key.PartialEq.eq c.laws_of.ensures.keys (arc_value c.args.key.now) i.0 c.ready.rest.items c.args.woken.items _ _ _ _ i.1 none i.2);
  tasked = c.ready.invariant.tasked;
  named = c.ready.invariant.named;
}

pub others-preserved : goal.others-preserved
others-preserved g c = record {
  kept = λ v W w owed work may. (
      let s = c.others.invariant.kept v W w owed work may in
      let k = arc_value c.args.key.now in
      let j = arc_value c.in-Some-take_asker_numbered.asker in (
        released_so g.U.Key.PartialEq.eq c.laws_of.ensures.keys g.U.Universe.meaning c.laws_of.ensures.lawful k _ _ c.take_asker_numbered.ensures.tasks j (c.in-Some-take_asker_numbered.ensures.asks (arc_value c.args.key.now) c.others.invariant.named) _ v (k ∷ W) w owed (c.in-Some-take_asker_numbered.ensures.asked (arc_value c.args.key.now) c.others.invariant.named) s.1 s.0,
        still_waits g.U.Key.PartialEq.eq c.laws_of.ensures.keys g.U.Universe.meaning c.laws_of.ensures.lawful k _ _ c.take_asker_numbered.ensures.tasks j (c.in-Some-take_asker_numbered.ensures.asks (arc_value c.args.key.now) c.others.invariant.named) s.1,
      ));
  woken = one_told g.U.Key.PartialEq.eq c.laws_of.ensures.keys (arc_value c.args.key.now) _ _ _ _ _ _ c.others.invariant.woken (arc_value c.in-Some-take_asker_numbered.asker) c.take_asker_numbered.ensures.tasks (c.in-Some-take_asker_numbered.ensures.asks (arc_value c.args.key.now) c.others.invariant.named);
  tasked = λ t. tasked_told g.U.Key.PartialEq.eq c.laws_of.ensures.keys (arc_value c.args.key.now) (arc_value c.in-Some-take_asker_numbered.asker) _ _ c.take_asker_numbered.ensures.tasks (c.in-Some-take_asker_numbered.ensures.asks (arc_value c.args.key.now) c.others.invariant.named) (c.others.invariant.tasked t);
  named = c.take_asker_numbered.ensures.numbers c.in-Some.number ∙ c.others.invariant.named;
}

pub returns-clause-kept : goal.returns-clause-kept
returns-clause-kept g c v W w owed work may =
    let s = c.others.invariant.kept v W w owed work may in
    told_all g.U.Key.PartialEq.eq c.laws_of.ensures.keys g.U.Universe.meaning c.laws_of.ensures.lawful (arc_value c.args.key.now) _ _ c.take_asker_numbered.ensures.tasks (c.in_default-take_asker_numbered.ensures.none (arc_value c.args.key.now) c.others.invariant.named).1 (c.in_default-take_asker_numbered.ensures.none (arc_value c.args.key.now) c.others.invariant.named).0 _ v W w owed s.0

pub returns-clause-woken : goal.returns-clause-woken
returns-clause-woken g c = same_woken g.U.Key.PartialEq.eq c.laws_of.ensures.keys (arc_value c.args.key.now) _ _ _ _ _ _ c.others.invariant.woken c.take_asker_numbered.ensures.tasks (c.in_default-take_asker_numbered.ensures.none (arc_value c.args.key.now) c.others.invariant.named).1

pub returns-clause-told : goal.returns-clause-told
returns-clause-told g c j = (c.in_default-take_asker_numbered.ensures.none (arc_value c.args.key.now) c.others.invariant.named).1 (arc_value c.args.key.now) (Tasked j) ∙ (c.in_default-take_asker_numbered.ensures.none (arc_value c.args.key.now) c.others.invariant.named).0 j

pub returns-clause-tasked : goal.returns-clause-tasked
returns-clause-tasked g c t = tasked_same g.U.Key.PartialEq.eq _ _ c.take_asker_numbered.ensures.tasks (c.in_default-take_asker_numbered.ensures.none (arc_value c.args.key.now) c.others.invariant.named).1 (c.others.invariant.tasked t)
