use Rattle.std.proofs.Common.{ℕ, ◌≡◌, ◌<◌, ◌+◌, arith, ap, ◌∙◌, Some, get_or, slice_get, length, map}
use Rattle.std.specs.Arc.{arc_value}
use Rattle.std.specs.List.{swap_remove}
use Rattle.std.proofs.lemmas.Option.{slice_get-get_or}
use Rattle.std.proofs.lemmas.List.Edits.{length-swap}
use Rattle.dice_tasks.specs.Shelves.{place_of}
use Rattle.dice_tasks.proofs.Laid.{ready_eq, same_place, found_before, take_out_is, one_fewer, at_some, in_first}
use Rattle.dice_tasks.proofs.Parts.{distinct_places}
use Rattle.dice_tasks.proofs.shelf.take_out.Goals as goal
use Rattle.lists.specs.Lists.{AreDistinct}

pub swap_tasks-requires-clause-first : goal.swap_tasks-requires-clause-first
swap_tasks-requires-clause-first g c _ _ =
    let s = c.in-Some.ensures.some in
    (found_before place_of c.args.shelf.now.keys (c.args.ready + 1) c.in-Some.index s.0 (c.args.version, arc_value c.args.key.now) c.requires.distinct c.requires.ready s.1 s.2).1

pub returns-in-Some : goal.returns-in-Some
returns-in-Some g c =
    let eq = g.U.Key.PartialEq.eq in
    let law = c.laws_of.ensures.keys in
    let s = c.in-Some.ensures.some in
    let r = c.args.ready in
    let xs = c.args.shelf.now.keys in
    let ys = c.swap_tasks.new.shelf.keys in
    let zs = c.swap_remove_index.new.self.keys in
    let p : ℕ × g.row.U-Key.Denot = (c.args.version, arc_value c.args.key.now) in
    let m : length ys ≡ length xs = ap length c.swap_tasks.ensures.keys ∙ length-swap xs c.in-Some.index r in
    let long : r < length ys = omega (arith, m, c.requires.bound) in
    let y = get_or ys r s.0 in
    let e : slice_get ys r ≡ Some y = slice_get-get_or ys r s.0 long in
    let o : c.swap_remove_index.result ≡ Some y = c.swap_remove_index.ensures.key ∙ e in
    let k : zs ≡ swap_remove ys r y = at_some _ c.swap_remove_index.result y o c.swap_remove_index.ensures.keys in
    let n = at_some _ c.swap_remove_index.result y o c.swap_remove_index.ensures.updates in
    let v : AreDistinct (map place_of ys) = c.swap_tasks.ensures.distinct in
    let w : AreDistinct (map place_of zs) = distinct_places place_of (ready_eq eq law) (same_place eq law) zs c.swap_remove_index.ensures.unique in
    let b = take_out_is place_of (ready_eq eq law) (same_place eq law) xs ys zs r c.in-Some.index s.0 y p c.requires.bound c.requires.distinct c.requires.ready s.1 s.2 c.swap_tasks.ensures.keys v e k n.1 w in
    record {
      ready = b.0;
      out = b.1;
      len = one_fewer place_of ys zs r y e k ∙ m;
      distinct = w;
      room = omega (arith, c.swap_tasks.ensures.room, c.swap_remove_index.ensures.room.0);
    }

pub returns-in_default : goal.returns-in_default
returns-in_default g c =
    absurd (c.in_default.ensures.none (in_first place_of (c.args.ready + 1) c.args.shelf.now.keys (c.args.version, arc_value c.args.key.now) c.requires.ready))
