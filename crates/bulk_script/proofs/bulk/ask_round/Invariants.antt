use Rattle.std.proofs.Common.{◌≡◌, ◌++◌, map}
use Rattle.bulk_script.specs.Spelled.{text_of}
use Rattle.bulk_script.specs.Bulk.{ask_in, asked_of}
use Rattle.bulk_script.proofs.bulk.ask_round.Given as goal

abbrev pub invariant-loop-target : goal.invariant-loop-target
invariant-loop-target l = l.script.items ≡ l.initial.script.items ++ text_of (map (ask_in l.transaction) (asked_of l.target))
