use Rattle.std.proofs.Common.{ℕ, arith, ap, ◌∙◌, length, map}
use Rattle.std.specs.Arc.{arc_value}
use Rattle.std.proofs.lemmas.List.Edits.{length-swap}
use Rattle.dice_tasks.specs.Shelves.{place_of}
use Rattle.dice_tasks.proofs.Laid.{found_after, put_back_is, in_second}
use Rattle.dice_tasks.proofs.shelf.put_back.Goals as goal
use Rattle.lists.specs.Lists.{AreDistinct}

pub swap_tasks-requires-clause-first : goal.swap_tasks-requires-clause-first
swap_tasks-requires-clause-first g c _ _ =
    let s = c.in-Some.ensures.some in
    (found_after place_of c.args.shelf.now.keys c.args.ready c.in-Some.index s.0 (c.args.version, arc_value c.args.key.now) c.requires.distinct c.requires.out s.1 s.2).1

pub swap_tasks-requires-clause-second : goal.swap_tasks-requires-clause-second
swap_tasks-requires-clause-second g c _ _ =
    let s = c.in-Some.ensures.some in
    let a = found_after place_of c.args.shelf.now.keys c.args.ready c.in-Some.index s.0 (c.args.version, arc_value c.args.key.now) c.requires.distinct c.requires.out s.1 s.2 in
    omega (arith, a.0, a.1)

pub returns-in-Some : goal.returns-in-Some
returns-in-Some g c =
    let s = c.in-Some.ensures.some in
    let xs = c.args.shelf.now.keys in
    let ys = c.swap_tasks.new.shelf.keys in
    let p : ℕ × g.row.U-Key.Denot = (c.args.version, arc_value c.args.key.now) in
    let a = found_after place_of xs c.args.ready c.in-Some.index s.0 p c.requires.distinct c.requires.out s.1 s.2 in
    let v : AreDistinct (map place_of ys) = c.swap_tasks.ensures.distinct in
    let b = put_back_is place_of xs ys c.args.ready c.in-Some.index s.0 p c.requires.distinct c.requires.out s.1 s.2 c.swap_tasks.ensures.keys v in
    record {
      ready = b.0;
      out = b.1;
      more = omega (arith, a.0, a.1);
      len = ap length c.swap_tasks.ensures.keys ∙ length-swap xs c.in-Some.index c.args.ready;
      distinct = v;
      room = c.swap_tasks.ensures.room;
    }

pub returns-in_default : goal.returns-in_default
returns-in_default g c =
    absurd (c.in_default.ensures.none (in_second place_of c.args.ready c.args.shelf.now.keys (c.args.version, arc_value c.args.key.now) c.requires.out))
