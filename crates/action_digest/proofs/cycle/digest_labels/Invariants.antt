use Rattle.std.proofs.Common.{◌≡◌, ◌++◌, map, drop}
use Rattle.std.specs.Arc.{arc_value}
use Rattle.action_digest.specs.Cycles.{labels_of}
use Rattle.action_digest.proofs.cycle.digest_labels.Given as goal

abbrev pub invariant-loop-key : goal.invariant-loop-key
invariant-loop-key l = l.labels.items ++ labels_of (map arc_value (drop l.key-index l.keys)) ≡ labels_of (map arc_value l.keys)
