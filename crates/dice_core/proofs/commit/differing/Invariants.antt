use Rattle.std.proofs.Common.{◌≡◌, ◌++◌, drop}
use Rattle.dice_model.specs.Log.{pairs_of}
use Rattle.dice_core.specs.Commits.{differing_of}
use Rattle.dice_core.proofs.commit.differing.Given as goal

-- what differs so far, and what differs of the changes that are left
abbrev pub invariant-loop-key : goal.invariant-loop-key
invariant-loop-key g l =
    pairs_of l.differing.items ++ differing_of g.U.Key.PartialEq.eq g.U.Value.PartialEq.eq g.U.Universe.meaning l.cells (pairs_of (drop l.key-index l.changes))
    ≡ differing_of g.U.Key.PartialEq.eq g.U.Value.PartialEq.eq g.U.Universe.meaning l.cells (pairs_of l.changes)
