use Rattle.std.proofs.Common.{◌≡◌, ◌++◌, ℕ, List, length}
use Rattle.dice_io.specs.Streams.{Gained}
use Rattle.dice_io.proofs.copying.write_all.Given as goal

-- what was written, and what is left, is all of it
abbrev pub invariant-loop-rest : goal.invariant-loop-rest
invariant-loop-rest g l = (front : List ℕ) × (l.bytes ≡ front ++ l.rest) × Gained (g.K.Sink.taken l.fn.sink) (g.K.Sink.taken l.sink) front × (g.K.Sink.faults l.sink ≡ g.K.Sink.faults l.fn.sink)

abbrev pub decreases-loop-rest : goal.decreases-loop-rest
decreases-loop-rest g l = length l.rest
