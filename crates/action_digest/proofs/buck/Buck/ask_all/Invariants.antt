use Rattle.std.proofs.Common.{◌≡◌, map, take}
use Rattle.std.specs.Arc.{arc_value}
use Rattle.action_digest.proofs.buck.Buck.ask_all.Given as goal

abbrev pub invariant-loop-key : goal.invariant-loop-key
invariant-loop-key l = map arc_value l.asked.items ≡ map arc_value (take l.key-index l.keys)
