use Rattle.std.proofs.Common.{◌≡◌, ◌++◌, map}
use Rattle.bulk_script.specs.Spelled.{text_of}
use Rattle.bulk_script.specs.Bulk.{source_put, numbers_below}
use Rattle.bulk_script.proofs.bulk.put_sources.Given as goal

abbrev pub invariant-loop-source : goal.invariant-loop-source
invariant-loop-source l = l.script.items ≡ l.initial.script.items ++ text_of (map source_put (numbers_below l.source))
