use Rattle.std.proofs.Common.{◌≡◌, map, take}
use Rattle.std.specs.Arc.{arc_value}
use Rattle.dep_recorder.specs.Recordings.{keys_in}
use Rattle.dep_recorder.proofs.check.copied_keys.Given as goal

-- the keys so far
abbrev pub invariant-loop-key : goal.invariant-loop-key
invariant-loop-key g l = map arc_value l.keys.items ≡ keys_in (take l.key-index l.wanted)
