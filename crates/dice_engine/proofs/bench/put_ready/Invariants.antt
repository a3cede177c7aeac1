use Rattle.dice_engine.proofs.Lining.{Lining}
use Rattle.dice_engine.proofs.bench.put_ready.Given as goal

abbrev pub invariant-loop : goal.invariant-loop
invariant-loop g l = Lining g.U.Key.PartialEq.eq g.U.Universe.meaning l.initial.putter l.initial.core l.counter l.putter l.core
