use Rattle.std.proofs.Common.{◌++◌, refl, subst, ap, ◌∙◌, arith}
use Rattle.std.specs.Prelude.{IsSome, option_to_list}
use Rattle.dice_tasks.proofs.ParkLemmas.{room_more, asks_more, asks_none, fits_asker, fits_wait}
use Rattle.dice_tasks.proofs.wait.add_waits.Goals as goal
use Rattle.lists.proofs.Members.{none_left}

pub each-init : goal.each-init
each-init g c = record { room = c.requires; tasks = record { tasks = λ q. refl; live = λ q. refl; count = refl }; asked = λ q a. refl }

pub add_wait-requires-clause-asker : goal.add_wait-requires-clause-asker
add_wait-requires-clause-asker g c =
    fits_asker g.U.Key.PartialEq.eq c.laws_of.ensures.keys c.pop.new.self.items c.each.rest.items c.in-Some.wait (c.pop.ensures.items ∙ ap (λ r. c.pop.new.self.items ++ option_to_list r) c.in-Some.is) _ c.each.invariant.room

pub add_wait-requires-clause-wait : goal.add_wait-requires-clause-wait
add_wait-requires-clause-wait g c =
    fits_wait g.U.Key.PartialEq.eq c.laws_of.ensures.keys c.pop.new.self.items c.each.rest.items c.in-Some.wait (c.pop.ensures.items ∙ ap (λ r. c.pop.new.self.items ++ option_to_list r) c.in-Some.is) _ c.each.invariant.room

pub each-preserved : goal.each-preserved
each-preserved g c =
    let eq = g.U.Key.PartialEq.eq in
    let e = c.pop.ensures.items ∙ ap (λ r. c.pop.new.self.items ++ option_to_list r) c.in-Some.is in
    record {
      room = room_more eq c.laws_of.ensures.keys c.pop.new.self.items c.each.rest.items c.in-Some.wait e _ c.each.invariant.room _ c.add_wait.ensures.asks c.add_wait.ensures.room;
      tasks = record { tasks = λ q. c.add_wait.ensures.tasks.tasks q ∙ c.each.invariant.tasks.tasks q; live = λ q. c.add_wait.ensures.tasks.live q ∙ c.each.invariant.tasks.live q; count = c.add_wait.ensures.tasks.count ∙ c.each.invariant.tasks.count };
      asked = λ q a. asks_more eq c.laws_of.ensures.keys c.pop.new.self.items c.each.rest.items c.in-Some.wait e _ c.each.invariant.room _ c.add_wait.ensures.asks q a _ (c.each.invariant.asked q a);
    }

pub returns-clause-asks : goal.returns-clause-asks
returns-clause-asks g c q a =
    asks_none g.U.Key.PartialEq.eq c.laws_of.ensures.keys c.each.rest.items _ q a _ (none_left c.each.rest.items (λ lt. let z = subst IsSome c.in_default.is (c.pop.ensures.variant.1 (omega arith)) in cc)) (c.each.invariant.asked q a)
