use Rattle.std.proofs.Common.{◌≡◌, ◌++◌, map, drop}
use Rattle.std.specs.Arc.{arc_value}
use Rattle.std.specs.Map.{keys_of}
use Rattle.dice_model.specs.Log.{pairs_of}
use Rattle.dice_core.proofs.commit.changed_keys.Given as goal

-- the keys so far and those that are left
abbrev pub invariant-loop-key : goal.invariant-loop-key
invariant-loop-key g l = map arc_value l.keys.items ++ keys_of (pairs_of (drop l.key-index l.changes)) ≡ keys_of (pairs_of l.changes)
