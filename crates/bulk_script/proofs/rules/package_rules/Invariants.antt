use Rattle.std.proofs.Common.{◌≡◌, ◌<◌, flat_map}
use Rattle.bulk_script.specs.Bulk.{target_line, targets_in}
use Rattle.bulk_script.proofs.rules.package_rules.Given as goal

abbrev pub invariant-loop-target : goal.invariant-loop-target
invariant-loop-target l = record {
  text_is : l.text.items ≡ flat_map target_line (targets_in l.target l.index);
  nothing : l.end < l.first → l.target ≡ l.first;
}
