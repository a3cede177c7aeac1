use Rattle.std.proofs.Common.{◌≡◌, ◌++◌, drop}
use Rattle.dice_model.specs.Log.{pairs_of}
use Rattle.dice_core.proofs.commit.copied_changes.Given as goal

-- the copies so far and the changes that are left
abbrev pub invariant-loop-key : goal.invariant-loop-key
invariant-loop-key g l = pairs_of l.copies.items ++ pairs_of (drop l.key-index l.changes) ≡ pairs_of l.changes
