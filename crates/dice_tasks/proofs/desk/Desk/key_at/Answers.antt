use Rattle.std.proofs.Common.{refl, sym, ap, ◌∙◌}
use Rattle.std.specs.Option.{option_map}
use Rattle.dice_tasks.specs.Shelves.{place_of}
use Rattle.dice_tasks.proofs.Desks.{place_is}
use Rattle.dice_tasks.proofs.desk.Desk.key_at.Goals as goal

pub returns-in-Some-clause-some : goal.returns-in-Some-clause-some
returns-in-Some-clause-some g c =
    (c.in-Some.task.now.version, place_is c.self.inside.ready c.self.inside.at_hand.keys _ c.args.self.now c.self.view_is refl refl c.args.index ∙ ap (option_map place_of) (sym c.in-Some.ensures.key))

pub returns-in-None-clause-none : goal.returns-in-None-clause-none
returns-in-None-clause-none g c =
    place_is c.self.inside.ready c.self.inside.at_hand.keys _ c.args.self.now c.self.view_is refl refl c.args.index ∙ ap (option_map place_of) (sym c.in-None.ensures.key)
