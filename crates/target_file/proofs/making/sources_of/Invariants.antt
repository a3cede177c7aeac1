use Rattle.std.proofs.Common.{◌≡◌, map, take}
use Rattle.target_file.specs.Targets.{source_of}
use Rattle.target_file.proofs.making.sources_of.Given as goal

abbrev pub invariant-loop-item : goal.invariant-loop-item
invariant-loop-item l = l.sources.items ≡ map source_of (take l.item-index l.items)
