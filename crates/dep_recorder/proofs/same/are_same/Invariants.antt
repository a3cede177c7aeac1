use Rattle.std.proofs.Common.{◌≡◌, drop}
use Rattle.dep_recorder.specs.Recordings.{same_pairs}
use Rattle.dep_recorder.proofs.same.are_same.Given as goal

-- what is left is the same if the whole is
abbrev pub invariant-loop-i : goal.invariant-loop-i
invariant-loop-i g l = same_pairs g.K.PartialEq.eq g.V.PartialEq.eq l.a l.b ≡ same_pairs g.K.PartialEq.eq g.V.PartialEq.eq (drop l.i l.a) (drop l.i l.b)
