use Rattle.std.proofs.Common.{take}
use Rattle.std.specs.Map.{keys_of}
use Rattle.dice_model.specs.Log.{pairs_of}
use Rattle.dice_core.specs.Commits.{AreSettable}
use Rattle.dice_steps.proofs.NotedLemmas.{AreSeen}
use Rattle.dice_core.proofs.commit.check_changes.Given as goal

-- the keys so far are injected and distinct, and they are those that were seen
abbrev pub invariant-loop-key : goal.invariant-loop-key
invariant-loop-key g l = record {
  settable : AreSettable g.U.Universe.meaning (keys_of (pairs_of (take l.key-index l.changes)));
  seen : AreSeen g.U.Key.PartialEq.eq l.seen (keys_of (pairs_of (take l.key-index l.changes)));
}
