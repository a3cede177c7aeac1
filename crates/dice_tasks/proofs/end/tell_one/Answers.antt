use Rattle.std.proofs.Common.{◌≡◌, inl, inr, refl, sym, subst, ◌∙◌, ap}
use Rattle.std.specs.Arc.{arc_value}
use Rattle.dice_tasks.specs.Hands.{DeskSeen, with_told_next}
use Rattle.dice_tasks.specs.Endings.{told_end}
use Rattle.dice_tasks.proofs.EndedLemmas.{knows_still, lists_from, last_same}
use Rattle.dice_tasks.proofs.end.tell_one.Goals as goal
use Rattle.lists.proofs.Members.{has_end}
use Rattle.lists.specs.Lists.{Has}

pub end_one-requires-clause-known : goal.end_one-requires-clause-known
end_one-requires-clause-known g c l o =
    knows_still g.U.Key.PartialEq.eq c.laws_of.ensures.keys c.args.version (arc_value c.in-Some.last.now) (arc_value c.in-Some-take_asker.asker) _ _ c.take_asker.ensures.tasks c.in-Some-take_asker.ensures.asks c.args.desk.now c.requires.known

pub end_one-requires-clause-owner : goal.end_one-requires-clause-owner
end_one-requires-clause-owner g c l o =
    let k = c.in-Some.ensures.some in
    c.requires.owner (arc_value c.in-Some.last.now) (arc_value c.in-Some-take_asker.asker) (subst (λ xs. Has xs (arc_value c.in-Some.last.now)) (sym k.1) (has_end k.0 (arc_value c.in-Some.last.now))) c.in-Some-take_asker.ensures.asked

pub returns-in-Some-take_asker-clause-some : goal.returns-in-Some-take_asker-clause-some
returns-in-Some-take_asker-clause-some g c t =
    let x = c.end_one.ensures.ended in
    let k = c.in-Some.ensures.some in
    inl (
      (record {
        key = arc_value c.in-Some.last.now;
        listed = subst (λ xs. Has xs (arc_value c.in-Some.last.now)) (sym k.1) (has_end k.0 (arc_value c.in-Some.last.now));
        asker = arc_value c.in-Some-take_asker.asker;
        asks = c.in-Some-take_asker.ensures.asked;
        held = x.0;
        came = x.1;
        comes = x.2;
        ends = lists_from g.U.Key.PartialEq.eq c.laws_of.ensures.keys c.args.version (arc_value c.in-Some.last.now) (arc_value c.in-Some-take_asker.asker) _ _ c.take_asker.ensures.tasks c.in-Some-take_asker.ensures.asks x.0 x.1
            (told_end c.args.version (arc_value c.in-Some-take_asker.asker) x.1) _ _ _ c.take_asker.ensures.room x.3;
      }),
      c.end_one.ensures.given,
    )

pub returns-in-None-clause-some : goal.returns-in-None-clause-some
returns-in-None-clause-some g c t =
    let k = c.in-Some.ensures.some in
    let p = c.pop_ended.ensures in
    let same : arc_value c.in-Some.last.now ≡ p.0 = last_same k.0 c.pop_ended.new.self.ended (arc_value c.in-Some.last.now) p.0 (sym k.1 ∙ ap (λ (d : DeskSeen g.row.U-Key.Denot g.row.U-Value.Denot). d.ended) p.1) in
    inr (
      (record {
        key = arc_value c.in-Some.last.now;
        none = c.in-None.ensures.none.0;
        tasks = c.take_asker.ensures.tasks;
        asks = c.in-None.ensures.none.1;
        desk = subst (λ z. c.args.desk.now ≡ with_told_next c.pop_ended.new.self z) (sym same) p.1;
      }),
      refl,
    )
