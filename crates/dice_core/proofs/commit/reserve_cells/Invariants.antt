use Rattle.std.proofs.Common.{◌≡◌, take}
use Rattle.dice_model.specs.Log.{pairs_of}
use Rattle.dice_core.specs.Commits.{HaveRoom, SameSets}
use Rattle.dice_core.proofs.commit.reserve_cells.Given as goal

-- nothing that is seen changed, and the keys so far have room
abbrev pub invariant-loop-key : goal.invariant-loop-key
invariant-loop-key g l = record {
  sets : SameSets g.U.Key.PartialEq.eq l.initial.cells l.cells;
  last : l.cells.last ≡ l.initial.cells.last;
  room : HaveRoom g.U.Key.PartialEq.eq l.cells (pairs_of (take l.key-index l.changes));
}
