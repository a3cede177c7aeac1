use Rattle.std.proofs.Common.{ℕ, ◌≡◌, arith, ◌∙◌, Some, map}
use Rattle.std.specs.Arc.{arc_value}
use Rattle.std.specs.List.{swap_remove}
use Rattle.dice_tasks.specs.Shelves.{place_of}
use Rattle.dice_tasks.proofs.Laid.{ready_eq, same_place, found_after, take_away_is, one_fewer, at_some, in_second}
use Rattle.dice_tasks.proofs.Parts.{distinct_places}
use Rattle.dice_tasks.proofs.shelf.take_away.Goals as goal
use Rattle.lists.specs.Lists.{AreDistinct}

pub returns-in-Some : goal.returns-in-Some
returns-in-Some g c =
    let eq = g.U.Key.PartialEq.eq in
    let law = c.laws_of.ensures.keys in
    let s = c.in-Some.ensures.some in
    let xs = c.args.shelf.now.keys in
    let ys = c.swap_remove_index.new.self.keys in
    let p : ℕ × g.row.U-Key.Denot = (c.args.version, arc_value c.args.key.now) in
    let a = found_after place_of xs c.args.ready c.in-Some.index s.0 p c.requires.distinct c.requires.out s.1 s.2 in
    let o : c.swap_remove_index.result ≡ Some s.0 = c.swap_remove_index.ensures.key ∙ s.1 in
    let k : ys ≡ swap_remove xs c.in-Some.index s.0 = at_some _ c.swap_remove_index.result s.0 o c.swap_remove_index.ensures.keys in
    let n = at_some _ c.swap_remove_index.result s.0 o c.swap_remove_index.ensures.updates in
    let v : AreDistinct (map place_of ys) = distinct_places place_of (ready_eq eq law) (same_place eq law) ys c.swap_remove_index.ensures.unique in
    let b = take_away_is place_of (ready_eq eq law) (same_place eq law) xs ys c.args.ready c.in-Some.index s.0 p c.requires.distinct c.requires.out s.1 s.2 k n.1 v in
    record {
      ready = b.0;
      out = b.1;
      more = omega (arith, a.0, a.1);
      len = one_fewer place_of xs ys c.in-Some.index s.0 s.1 k;
      distinct = v;
      room = c.swap_remove_index.ensures.room.0;
    }

pub returns-in_default : goal.returns-in_default
returns-in_default g c =
    absurd (c.in_default.ensures.none (in_second place_of c.args.ready c.args.shelf.now.keys (c.args.version, arc_value c.args.key.now) c.requires.out))
