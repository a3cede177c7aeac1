use Rattle.std.specs.Arc.{arc_value}
use Rattle.core_laws.specs.Tasks.{IsOut, IsWaiting}
use Rattle.dice_tasks.specs.Helds.{held_of}
use Rattle.dice_tasks.proofs.WaitLemmas.{turned_by, parks_on}
use Rattle.dice_tasks.proofs.ParkLemmas.{room_same, parks_so}
use Rattle.dice_tasks.proofs.wait.park.Goals as goal

pub add_waits-requires-after_bounds : goal.add_waits-requires-after_bounds
add_waits-requires-after_bounds g c κs within =
    let t = turned_by g.U.Key.PartialEq.eq c.laws_of.ensures.keys (arc_value c.args.key.now) (held_of c.args.parked.job IsOut) (held_of c.args.parked.job (IsWaiting c.args.parked.keys)) c.park.new.self c.args.tasks.now (c.task_mut.follows.lender c.park.new.self) c.requires.out c.park.ensures (rw c.in-Some.is at (c.task_mut.follows.holds c.park.new.self)) in
    room_same g.U.Key.PartialEq.eq c.laws_of.ensures.keys c.args.waits.items _ _ c.requires.room t.asks t.room

pub returns-clause-parks : goal.returns-clause-parks
returns-clause-parks g c =
    let t = turned_by g.U.Key.PartialEq.eq c.laws_of.ensures.keys (arc_value c.args.key.now) (held_of c.args.parked.job IsOut) (held_of c.args.parked.job (IsWaiting c.args.parked.keys)) c.park.new.self c.args.tasks.now (c.task_mut.follows.lender c.park.new.self) c.requires.out c.park.ensures (rw c.in-Some.is at (c.task_mut.follows.holds c.park.new.self)) in
    parks_so g.U.Key.PartialEq.eq c.laws_of.ensures.keys c.args.version (arc_value c.args.key.now) c.args.parked c.args.waits.items _ _ _ _ _ t c.add_waits.ensures.tasks c.add_waits.ensures.asks c.left.ensures

pub returns-clause-kept : goal.returns-clause-kept
returns-clause-kept g c w W owed work may =
    parks_on g.U.Key.PartialEq.eq c.laws_of.ensures.keys g.U.Universe.meaning c.laws_of.ensures.lawful c.args.version (arc_value c.args.key.now) c.args.parked c.args.waits.items _ _ _ _ (returns-clause-parks g c) may W w owed work
