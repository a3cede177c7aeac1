use Rattle.std.proofs.Common.{◌≡◌, ◌+◌, arith, ap, ◌∙◌, length, map}
use Rattle.std.proofs.lemmas.List.{length_push}
use Rattle.std.proofs.lemmas.List.Edits.{length-swap}
use Rattle.dice_tasks.specs.Shelves.{place_of}
use Rattle.dice_tasks.proofs.Laid.{ready_eq, same_place, one_place, inserted, put_in_is}
use Rattle.dice_tasks.proofs.Parts.{distinct_places}
use Rattle.dice_tasks.proofs.shelf.put_in.Goals as goal
use Rattle.lists.specs.Lists.{AreDistinct}

pub swap_tasks-requires-clause-first : goal.swap_tasks-requires-clause-first
swap_tasks-requires-clause-first g c _ _ =
    let eq = g.U.Key.PartialEq.eq in
    let law = c.laws_of.ensures.keys in
    let xs = c.args.shelf.now.keys in
    let i = inserted place_of (ready_eq eq law) (one_place eq law) xs c.insert.new.self.keys c.args.task c.insert.result c.requires.new (c.insert.ensures.succeeds c.requires.room) c.insert.ensures.keys in
    let m : length c.insert.new.self.keys ≡ length xs + 1 = ap length i ∙ length_push xs c.args.task in
    omega (arith, m, c.len-last.ensures.len)

pub swap_tasks-requires-clause-second : goal.swap_tasks-requires-clause-second
swap_tasks-requires-clause-second g c _ _ =
    let eq = g.U.Key.PartialEq.eq in
    let law = c.laws_of.ensures.keys in
    let xs = c.args.shelf.now.keys in
    let i = inserted place_of (ready_eq eq law) (one_place eq law) xs c.insert.new.self.keys c.args.task c.insert.result c.requires.new (c.insert.ensures.succeeds c.requires.room) c.insert.ensures.keys in
    let m : length c.insert.new.self.keys ≡ length xs + 1 = ap length i ∙ length_push xs c.args.task in
    omega (arith, m, c.requires.bound)

pub returns-clause-ready : goal.returns-clause-ready
returns-clause-ready g c =
    let eq = g.U.Key.PartialEq.eq in
    let law = c.laws_of.ensures.keys in
    let xs = c.args.shelf.now.keys in
    let ys = c.insert.new.self.keys in
    let zs = c.swap_tasks.new.shelf.keys in
    let i = inserted place_of (ready_eq eq law) (one_place eq law) xs ys c.args.task c.insert.result c.requires.new (c.insert.ensures.succeeds c.requires.room) c.insert.ensures.keys in
    let u : AreDistinct (map place_of ys) = distinct_places place_of (ready_eq eq law) (same_place eq law) ys c.insert.ensures.unique in
    let v : AreDistinct (map place_of zs) = c.swap_tasks.ensures.distinct in
    (put_in_is place_of xs ys zs c.args.ready c.len-last.result c.args.task c.requires.bound c.len-last.ensures.len i c.swap_tasks.ensures.keys u v).0

pub returns-clause-out : goal.returns-clause-out
returns-clause-out g c =
    let eq = g.U.Key.PartialEq.eq in
    let law = c.laws_of.ensures.keys in
    let xs = c.args.shelf.now.keys in
    let ys = c.insert.new.self.keys in
    let zs = c.swap_tasks.new.shelf.keys in
    let i = inserted place_of (ready_eq eq law) (one_place eq law) xs ys c.args.task c.insert.result c.requires.new (c.insert.ensures.succeeds c.requires.room) c.insert.ensures.keys in
    let u : AreDistinct (map place_of ys) = distinct_places place_of (ready_eq eq law) (same_place eq law) ys c.insert.ensures.unique in
    let v : AreDistinct (map place_of zs) = c.swap_tasks.ensures.distinct in
    (put_in_is place_of xs ys zs c.args.ready c.len-last.result c.args.task c.requires.bound c.len-last.ensures.len i c.swap_tasks.ensures.keys u v).1

pub returns-clause-len : goal.returns-clause-len
returns-clause-len g c =
    let eq = g.U.Key.PartialEq.eq in
    let law = c.laws_of.ensures.keys in
    let xs = c.args.shelf.now.keys in
    let ys = c.insert.new.self.keys in
    let i = inserted place_of (ready_eq eq law) (one_place eq law) xs ys c.args.task c.insert.result c.requires.new (c.insert.ensures.succeeds c.requires.room) c.insert.ensures.keys in
    ap length c.swap_tasks.ensures.keys ∙ (length-swap ys c.len-last.result c.args.ready ∙ (ap length i ∙ length_push xs c.args.task))

pub returns-clause-distinct : goal.returns-clause-distinct
returns-clause-distinct g c =
    let eq = g.U.Key.PartialEq.eq in
    let law = c.laws_of.ensures.keys in
    c.swap_tasks.ensures.distinct

pub swap_tasks-requires-clause-distinct : goal.swap_tasks-requires-clause-distinct
swap_tasks-requires-clause-distinct g c _ _ =
    let eq = g.U.Key.PartialEq.eq in
    let law = c.laws_of.ensures.keys in
    distinct_places place_of (ready_eq eq law) (same_place eq law) c.insert.new.self.keys c.insert.ensures.unique
