use Rattle.std.proofs.Common.{◌≡◌, ◌++◌, map}
use Rattle.bulk_script.specs.Spelled.{text_of}
use Rattle.bulk_script.specs.Bulk.{package_put, numbers_below}
use Rattle.bulk_script.proofs.bulk.put_packages.Given as goal

abbrev pub invariant-loop-index : goal.invariant-loop-index
invariant-loop-index l = l.script.items ≡ l.initial.script.items ++ text_of (map (package_put l.targets) (numbers_below l.index))
