use Rattle.std.proofs.Common.{◌∙◌, ◌++◌, ap, subst, arith}
use Rattle.std.specs.Prelude.{IsSome, option_to_list}
use Rattle.dice_steps.proofs.MakesLemmas.{next_part, next_room, room_next, makes_next, on_next, makes_end, on_end}
use Rattle.dice_steps.proofs.LookedLemmas.{parted_end, next_makable, next_parted}
use Rattle.dice_steps.proofs.batch.make_all.Goals as goal
use Rattle.lists.proofs.Members.{none_left}

pub parts-init : goal.parts-init
parts-init g c = record { kept = λ W w owed h. h; room = c.requires.room; makes = λ qs e h. h; makable = λ born h. h; looked = λ born may qs e gs h. h }

pub make_part-requires-clause-own : goal.make_part-requires-clause-own
make_part-requires-clause-own g c l o =
    let r = c.requires.hand in
    let split = c.pop.ensures.items ∙ ap (λ z. c.pop.new.self.items ++ option_to_list z) c.in-Some.is in
    (next_part g.U.Key.PartialEq.eq c.laws_of.ensures.keys g.U.Universe.meaning c.laws_of.ensures.lawful c.args.version c.parts.rest.items c.pop.new.self.items c.in-Some.part split r.0 r.1 r.2 _ _ _ (c.parts.invariant.kept r.0 r.1 r.2 r.3)).own

pub make_part-requires-clause-room : goal.make_part-requires-clause-room
make_part-requires-clause-room g c l o =
    let r = c.requires.hand in
    let split = c.pop.ensures.items ∙ ap (λ z. c.pop.new.self.items ++ option_to_list z) c.in-Some.is in
    next_room g.U.Key.PartialEq.eq c.laws_of.ensures.keys g.U.Universe.meaning c.laws_of.ensures.lawful c.args.version c.parts.rest.items c.pop.new.self.items c.in-Some.part split r.0 r.1 r.2 _ _ _ (c.parts.invariant.kept r.0 r.1 r.2 r.3) c.parts.invariant.room

pub parts-preserved : goal.parts-preserved
parts-preserved g c =
    let eq = g.U.Key.PartialEq.eq in
    let law = c.laws_of.ensures in
    let m = g.U.Universe.meaning in
    let v = c.args.version in
    let r = c.requires.hand in
    let one = c.make_part.ensures in
    let split = c.pop.ensures.items ∙ ap (λ z. c.pop.new.self.items ++ option_to_list z) c.in-Some.is in
    record {
      kept = λ W w owed h. on_next eq law.keys m law.lawful v c.parts.rest.items c.pop.new.self.items c.in-Some.part split W w owed _ _ _ (c.parts.invariant.kept W w owed h) _ _ _ one.made one.alone one.kept;
      room = room_next eq law.keys m law.lawful v c.parts.rest.items c.pop.new.self.items c.in-Some.part split r.0 r.1 r.2 _ _ _ (c.parts.invariant.kept r.0 r.1 r.2 r.3) _ _ _ one.made one.alone c.parts.invariant.room;
      makes = λ qs e h. c.parts.invariant.makes qs e (makes_next eq law.keys m law.lawful v c.parts.rest.items c.pop.new.self.items c.in-Some.part split r.0 r.1 r.2 _ _ _ (c.parts.invariant.kept r.0 r.1 r.2 r.3) _ _ _ one.made one.alone qs e h);
      makable = λ born may. next_makable eq law.keys m v born c.parts.rest.items c.pop.new.self.items c.in-Some.part split _ _ _ _ _ _ one.made one.alone (c.parts.invariant.makable born may);
      looked = λ born may qs e gs h. c.parts.invariant.looked born may qs e gs (next_parted eq law.keys m v born c.parts.rest.items c.pop.new.self.items c.in-Some.part split _ _ _ _ _ _ one.made one.alone (c.parts.invariant.makable born may) qs e gs h);
    }

pub returns-clause-made : goal.returns-clause-made
returns-clause-made g c =
    let none = none_left c.parts.rest.items (λ lt. let z = subst IsSome c.in_default.is (c.pop.ensures.variant.1 (omega arith)) in cc) in
    c.parts.invariant.makes _ _ (makes_end g.U.Key.PartialEq.eq g.U.Universe.meaning c.args.version c.parts.rest.items none _ _)

pub returns-clause-looked : goal.returns-clause-looked
returns-clause-looked g c born may =
    let none = none_left c.parts.rest.items (λ lt. let z = subst IsSome c.in_default.is (c.pop.ensures.variant.1 (omega arith)) in cc) in
    c.parts.invariant.looked born may _ _ _ (parted_end g.U.Key.PartialEq.eq g.U.Universe.meaning c.args.version born c.parts.rest.items none _ _ _)

pub returns-clause-kept : goal.returns-clause-kept
returns-clause-kept g c W w owed h =
    let none = none_left c.parts.rest.items (λ lt. let z = subst IsSome c.in_default.is (c.pop.ensures.variant.1 (omega arith)) in cc) in
    on_end g.U.Key.PartialEq.eq g.U.Universe.meaning c.args.version c.parts.rest.items none _ _ W w owed _ (c.parts.invariant.kept W w owed h)
