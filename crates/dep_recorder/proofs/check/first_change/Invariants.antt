use Rattle.std.proofs.Common.{◌≡◌, drop, map}
use Rattle.std.specs.Arc.{arc_value}
use Rattle.dep_recorder.specs.Recordings.{keys_in, values_in}
use Rattle.dep_recorder.specs.Checks.{first_change}
use Rattle.dep_recorder.proofs.check.first_change.Given as goal

-- what is left has the first change of the whole
abbrev pub invariant-loop-i : goal.invariant-loop-i
invariant-loop-i g l = first_change g.V.PartialEq.eq (keys_in l.was) (values_in l.was) (map arc_value l.now) ≡ first_change g.V.PartialEq.eq (keys_in (drop l.i l.was)) (values_in (drop l.i l.was)) (map arc_value (drop l.i l.now))
