use Rattle.std.proofs.Common.{◌≡◌, ◌+◌, ◌≤◌, length}
use Rattle.std.specs.Vec.Iter.{into_iter_items}
use Rattle.indexmap.specs.IndexSet.{spare, insert_all}
use Rattle.small_set.proofs.set.fill.Given as goal

-- what is left comes in, and there is room for it
abbrev pub invariant-loop-member : goal.invariant-loop-member
invariant-loop-member g l =
    let rest = into_iter_items l.member-iterator in
    (goal.iterator-loop-member g).can_next l.member-iterator
    × (goal.iterator-loop-member g).is_finite l.member-iterator
    × (insert_all g.T.PartialEq.eq l.set.keys rest ≡ insert_all g.T.PartialEq.eq l.fn.set.keys l.fn.list.items)
    × (length rest ≤ spare l.set)
    × (spare l.fn.set + length rest ≤ spare l.set + length l.fn.list.items)
