use Rattle.dice_model.specs.Log.{pairs_of}
use Rattle.dice_core.proofs.CommitLemmas.{IsSetting}
use Rattle.dice_core.proofs.commit.set_cells.Given as goal

-- the changes that are left are still to be set
abbrev pub invariant-loop-key : goal.invariant-loop-key
invariant-loop-key g l = IsSetting g.U.Key.PartialEq.eq l.version l.initial.cells l.cells (pairs_of l.fn.changes.items) (pairs_of l.key-iterator.rest.items)
