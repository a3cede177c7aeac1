use Rattle.std.specs.Arc.{arc_value}
use Rattle.dice_tasks.specs.Shelves.{place_of}
use Rattle.dice_tasks.proofs.Laid.{place_from, place_says}
use Rattle.dice_tasks.proofs.Parts.{index_some, index_none}
use Rattle.dice_tasks.proofs.shelf.index_of.Goals as goal

pub returns-clause-some : goal.returns-clause-some
returns-clause-some g c =
    let key = arc_value c.args.key.now in
    index_some place_of _ (c.args.version, key) (place_from g.U.Key.PartialEq.eq c.laws_of.ensures.keys c.args.version key) c.args.shelf.now.keys c.get_index_of.result c.get_index_of.ensures.index c.get_index_of.ensures.within

pub returns-clause-none : goal.returns-clause-none
returns-clause-none g c =
    let key = arc_value c.args.key.now in
    index_none place_of _ (c.args.version, key) (place_says g.U.Key.PartialEq.eq c.laws_of.ensures.keys c.args.version key) c.args.shelf.now.keys c.get_index_of.result c.get_index_of.ensures.found
