use Rattle.std.proofs.Common.{◌≡◌, ◌++◌, map, take}
use Rattle.std.specs.Arc.{arc_value}
use Rattle.buck_label.specs.Labels.{package_of}
use Rattle.action_digest.specs.Written.{key_in}
use Rattle.action_digest.proofs.asked.push_sources.Given as goal

abbrev pub invariant-loop-source : goal.invariant-loop-source
invariant-loop-source l = map arc_value l.keys.items ≡ map arc_value l.initial.keys.items ++ map (key_in (package_of l.asker)) (take l.source-index l.sources)
