use Rattle.std.proofs.Common.{◌≡◌, ◌++◌, drop}
use Rattle.dep_recorder.specs.Recordings.{keys_in, values_in}
use Rattle.dep_recorder.proofs.extended.copy_pairs.Given as goal

abbrev pub invariant-loop-key : goal.invariant-loop-key
invariant-loop-key g l = record {
  keys : keys_in l.pairs.items ++ keys_in (drop l.key-index l.from) ≡ keys_in l.initial.pairs.items ++ keys_in l.from;
  values : values_in l.pairs.items ++ values_in (drop l.key-index l.from) ≡ values_in l.initial.pairs.items ++ values_in l.from;
}
