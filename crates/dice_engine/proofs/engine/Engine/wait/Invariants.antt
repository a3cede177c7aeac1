use Rattle.std.proofs.Common.{◌≡◌}
use Rattle.dice_engine.specs.Turns.{Later, Works}
use Rattle.dice_engine.specs.Doings.{WaitsOn}
use Rattle.dice_engine.proofs.engine.Engine.wait.Given as goal

abbrev pub invariant-loop : goal.invariant-loop
invariant-loop g l = record {
  works : Works g.U.Key.PartialEq.eq g.U.Universe.meaning l.fn.seat l.seat;
  later : Later g.U.Key.PartialEq.eq g.U.Universe.meaning l.fn.seat l.seat × (l.seat.mine ≡ l.fn.seat.mine);
  waited : WaitsOn g.U.Key.PartialEq.eq g.U.Universe.meaning g.U.Value.PartialEq.eq l.fn.seat l.seat;
}
