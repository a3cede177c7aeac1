use Rattle.std.proofs.Common.{◌≡◌, ◌++◌, map, take}
use Rattle.std.specs.Arc.{arc_value}
use Rattle.target_file.specs.declared.source.Source.TheVariants as source
use Rattle.buck_label.specs.Labels.{package_of}
use Rattle.action_digest.specs.Written.{key_in}
use Rattle.action_digest.proofs.asked.push_locations.Given as goal

abbrev pub invariant-loop-label : goal.invariant-loop-label
invariant-loop-label l = map arc_value l.keys.items ≡ map arc_value l.initial.keys.items ++ map (key_in (package_of l.asker)) (map source.Label (take l.label-index l.labels))
