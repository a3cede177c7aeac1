use Rattle.std.proofs.Common.{◌≡◌, ◌++◌, drop}
use Rattle.dice_model.specs.Log.{pairs_of}
use Rattle.journal.specs.Texts.{changed}
use Rattle.journal.proofs.line.texts_in.Given as goal

-- the texts so far and those of the pairs that are left are all
abbrev pub invariant-loop-key : goal.invariant-loop-key
invariant-loop-key g l = l.texts.items ++ changed g.U.Universe.meaning (pairs_of (drop l.key-index l.pairs)) ≡ changed g.U.Universe.meaning (pairs_of l.pairs)
