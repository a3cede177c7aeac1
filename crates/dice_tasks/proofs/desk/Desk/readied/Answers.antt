use Rattle.std.proofs.Common.{refl}
use Rattle.dice_tasks.specs.Shelves.{place_of}
use Rattle.dice_tasks.proofs.Desks.{has_no_place}
use Rattle.dice_tasks.proofs.desk.Desk.readied.Goals as goal

pub put_in-requires-clause-new : goal.put_in-requires-clause-new
put_in-requires-clause-new g c =
    λ κ l. has_no_place c.self.inside.ready c.self.inside.at_hand.keys _ c.args.self.now (place_of c.args.task) c.self.view_is refl refl c.requires.ready c.requires.out
