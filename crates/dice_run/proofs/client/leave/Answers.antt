use Rattle.std.specs.Arc.{arc_value}
use Rattle.dice_run.proofs.Turning.{turn_leaves}
use Rattle.dice_run.proofs.client.leave.Goals as goal

pub returns : goal.returns
returns g c =
    let p = c.args.promise in
    turn_leaves c.args.engine.now c.args.seat.now c.leave.new.seat p.ask p.opened p.version (arc_value p.key) c.requires.ours c.requires.asked c.requires.open c.leave.ensures.turn
