-- One key more has room.
use Rattle.std.proofs.Common.{◌∙◌}
use Rattle.dice_core.proofs.CommitLemmas.{room_reserved}
use Rattle.dice_core.proofs.commit.reserve_cells.Goals as goal

pub loop-key-preserved : goal.loop-key-preserved
loop-key-preserved g c = record {
  sets = λ k. c.reserve.ensures.sets k ∙ c.loop-key.invariant.sets k;
  last = c.reserve.ensures.last ∙ c.loop-key.invariant.last;
  room = room_reserved g.U.Key.PartialEq.eq c.laws_of.ensures.keys c.loop-key.cells c.reserve.new.self c.args.changes.now c.loop-key.key-index c.loop-key-item.result c.in_ok-try_clone.field-0.value
      c.loop-key-test.true c.loop-key-item.is c.in_ok-try_clone.ensures c.loop-key.invariant.room c.reserve.ensures.others c.in_ok-reserve.ensures.ok;
}
