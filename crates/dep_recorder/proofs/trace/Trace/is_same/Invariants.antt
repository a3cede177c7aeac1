use Rattle.std.proofs.Common.{◌≡◌, take}
use Rattle.dep_recorder.proofs.trace.Trace.is_same.Given as goal

-- the batches so far are the same
abbrev pub invariant-loop-i : goal.invariant-loop-i
invariant-loop-i g l = take l.i l.self ≡ take l.i l.other
