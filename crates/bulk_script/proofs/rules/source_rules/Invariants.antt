use Rattle.std.proofs.Common.{◌≡◌, flat_map}
use Rattle.bulk_script.specs.Bulk.{export_line, numbers_below}
use Rattle.bulk_script.proofs.rules.source_rules.Given as goal

abbrev pub invariant-loop-source : goal.invariant-loop-source
invariant-loop-source l = l.text.items ≡ flat_map export_line (numbers_below l.source)
