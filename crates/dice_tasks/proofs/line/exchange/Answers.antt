use Rattle.std.proofs.Common.{arith, map}
use Rattle.dice_tasks.specs.Shelves.{place_of}
use Rattle.dice_tasks.proofs.Laid.{ready_eq, same_place}
use Rattle.dice_tasks.proofs.LineLemmas.{exchanged_is}
use Rattle.dice_tasks.proofs.Parts.{distinct_places}
use Rattle.dice_tasks.proofs.line.exchange.Goals as goal
use Rattle.lists.specs.Lists.{AreDistinct}

pub swap_indices-requires-clause-a_in_bounds : goal.swap_indices-requires-clause-a_in_bounds
swap_indices-requires-clause-a_in_bounds g c = omega (arith, c.requires.laid.bound, c.requires.first)

pub swap_indices-requires-clause-b_in_bounds : goal.swap_indices-requires-clause-b_in_bounds
swap_indices-requires-clause-b_in_bounds g c = omega (arith, c.requires.laid.bound, c.requires.second)

pub returns : goal.returns
returns g c =
    let law = c.laws_of.ensures.keys in
    let eq = g.U.Key.PartialEq.eq in
    let v : AreDistinct (map place_of c.swap_indices.new.self.keys) = distinct_places place_of (ready_eq eq law) (same_place eq law) c.swap_indices.new.self.keys c.swap_indices.ensures.unique in
    exchanged_is c.args.ready c.args.shelf.now.keys _ c.args.first c.args.second _ _ c.requires.laid c.requires.first c.requires.second c.swap_indices.ensures.keys v c.swap_indices.ensures.room.0
