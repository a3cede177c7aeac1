use Rattle.std.proofs.Common.{◌<◌, sym, subst}
use Rattle.std.specs.Arc.{arc_value}
use Rattle.dice_tasks.specs.Hands.{DeskSeen, Readies}
use Rattle.dice_tasks.specs.Shelves.{place_of}
use Rattle.dice_tasks.proofs.MakeLemmas.{makes_of}
use Rattle.dice_tasks.proofs.making.begin.Goals as goal
use Rattle.lists.specs.Lists.{Has}

pub readied-requires-clause-ready : goal.readied-requires-clause-ready
readied-requires-clause-ready g c _ _ = subst (λ (z : DeskSeen g.row.U-Key.Denot g.row.U-Value.Denot). Has z.ready (place_of c.args.ready) → ⊥) (sym c.made.ensures) c.requires.unready

pub readied-requires-clause-out : goal.readied-requires-clause-out
readied-requires-clause-out g c _ _ = subst (λ (z : DeskSeen g.row.U-Key.Denot g.row.U-Value.Denot). Has z.out (place_of c.args.ready) → ⊥) (sym c.made.ensures) c.requires.home

pub readied-requires-clause-room : goal.readied-requires-clause-room
readied-requires-clause-room g c _ _ = subst (λ (z : DeskSeen g.row.U-Key.Denot g.row.U-Value.Denot). 0 < z.ready_room) (sym c.made.ensures) c.requires.ready_room

pub returns-clause-tasks : goal.returns-clause-tasks
returns-clause-tasks g c =
    let t = c.make_reserved.ensures in
    makes_of g.U.Key.PartialEq.eq (arc_value c.args.key.now) c.args.task c.args.tasks.now c.make_reserved.new.self t.tasks t.live t.asks t.room

pub returns-clause-desk : goal.returns-clause-desk
returns-clause-desk g c = subst (λ (z : DeskSeen g.row.U-Key.Denot g.row.U-Value.Denot). Readies (place_of c.args.ready) z c.readied.new.self) c.made.ensures c.readied.ensures
