use Rattle.std.proofs.Common.{◌≡◌, take}
use Rattle.dice_model.specs.Log.{pairs_of}
use Rattle.dice_engine.proofs.events.shared_pairs.Given as goal

abbrev pub invariant-loop-pair : goal.invariant-loop-pair
invariant-loop-pair g l = pairs_of l.pairs.items ≡ pairs_of (take l.pair-index l.all)
