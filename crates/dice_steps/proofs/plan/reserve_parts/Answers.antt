use Rattle.std.proofs.Common.{◌∙◌, ◌++◌, ◌∷◌, [], refl, sym, ap, subst, take}
use Rattle.std.specs.Arc.{arc_value}
use Rattle.std.proofs.lemmas.List.{take_all, take_more}
use Rattle.dice_steps.specs.Plans.{waits_of, ArePlaced}
use Rattle.dice_steps.proofs.PlacedLemmas.{room_same, tasks_on, asks_on, room_on, waits_more, placed_on, placed_more}
use Rattle.dice_steps.proofs.plan.reserve_parts.Goals as goal

pub loop-part-init : goal.loop-part-init
loop-part-init g c = record {
  tasks = record { tasks = λ q. refl; live = λ q. refl; count = refl };
  asks = λ q a. refl;
  room = room_same g.U.Key.PartialEq.eq _;
  placed = record { places = λ p h. absurd h; askers = λ p h. absurd h };
  waits = c.new-waits.ensures.items;
}

pub returns-in_err-reserve_part-clause-tasks : goal.returns-in_err-reserve_part-clause-tasks
returns-in_err-reserve_part-clause-tasks g c = tasks_on g.U.Key.PartialEq.eq _ _ _ c.loop-part.invariant.tasks c.reserve_part.ensures.tasks

pub returns-in_err-reserve_part-clause-asks : goal.returns-in_err-reserve_part-clause-asks
returns-in_err-reserve_part-clause-asks g c = asks_on g.U.Key.PartialEq.eq _ _ _ c.loop-part.invariant.asks c.reserve_part.ensures.asks

pub returns-in_err-reserve_part-clause-room : goal.returns-in_err-reserve_part-clause-room
returns-in_err-reserve_part-clause-room g c = room_on g.U.Key.PartialEq.eq _ _ _ c.loop-part.invariant.room c.reserve_part.ensures.room

pub loop-part-preserved : goal.loop-part-preserved
loop-part-preserved g c =
    let eq = g.U.Key.PartialEq.eq in
    let p = c.part-item.result in
    let i = c.loop-part.part-index in
    let xs = c.args.parts.now in
    let k = arc_value c.args.own.now in
    let one = c.reserve_part.ensures in
    let ok = c.in_ok-reserve_part.ensures in
    let more = take_more xs i p c.loop-part-test.true ∙ ap (λ z. take i xs ++ z ∷ []) (sym c.part-item.is) in
    record {
      tasks = tasks_on eq _ _ _ c.loop-part.invariant.tasks one.tasks;
      asks = asks_on eq _ _ _ c.loop-part.invariant.asks one.asks;
      room = room_on eq _ _ _ c.loop-part.invariant.room one.room;
      placed = subst (λ z. ArePlaced eq z c.reserve_part.new.tasks) (sym more) (placed_more eq _ _ one.room (take i xs) c.loop-part.invariant.placed p ok.place ok.asker);
      waits = ok.waits ∙ (ap (λ z. z ++ waits_of k (p ∷ [])) c.loop-part.invariant.waits ∙ (sym (waits_more k (take i xs) p) ∙ ap (waits_of k) (sym more)));
    }

pub returns-in_err-reserve_waits-clause-tasks : goal.returns-in_err-reserve_waits-clause-tasks
returns-in_err-reserve_waits-clause-tasks g c = tasks_on g.U.Key.PartialEq.eq _ _ _ c.loop-part.invariant.tasks c.reserve_waits.ensures.tasks

pub returns-in_err-reserve_waits-clause-asks : goal.returns-in_err-reserve_waits-clause-asks
returns-in_err-reserve_waits-clause-asks g c = asks_on g.U.Key.PartialEq.eq _ _ _ c.loop-part.invariant.asks c.reserve_waits.ensures.asks

pub returns-in_err-reserve_waits-clause-room : goal.returns-in_err-reserve_waits-clause-room
returns-in_err-reserve_waits-clause-room g c = room_on g.U.Key.PartialEq.eq _ _ _ c.loop-part.invariant.room c.reserve_waits.ensures.room

pub returns-clause-tasks : goal.returns-clause-tasks
returns-clause-tasks g c = tasks_on g.U.Key.PartialEq.eq _ _ _ c.loop-part.invariant.tasks c.reserve_waits.ensures.tasks

pub returns-clause-asks : goal.returns-clause-asks
returns-clause-asks g c = asks_on g.U.Key.PartialEq.eq _ _ _ c.loop-part.invariant.asks c.reserve_waits.ensures.asks

pub returns-clause-room : goal.returns-clause-room
returns-clause-room g c = room_on g.U.Key.PartialEq.eq _ _ _ c.loop-part.invariant.room c.reserve_waits.ensures.room

pub returns-clause-placed : goal.returns-clause-placed
returns-clause-placed g c =
    let xs = c.args.parts.now in
    subst (λ z. ArePlaced g.U.Key.PartialEq.eq z c.reserve_waits.new.self) (take_all c.loop-part.part-index xs c.loop-part-test.false)
    (placed_on g.U.Key.PartialEq.eq _ _ c.reserve_waits.ensures.room _ c.loop-part.invariant.placed)

pub returns-clause-waits : goal.returns-clause-waits
returns-clause-waits g c = c.loop-part.invariant.waits ∙ ap (waits_of (arc_value c.args.own.now)) (take_all c.loop-part.part-index c.args.parts.now c.loop-part-test.false)
