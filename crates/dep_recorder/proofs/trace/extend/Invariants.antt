use Rattle.std.proofs.Common.{◌≡◌, ◌≤◌, ◌++◌, length, map, take}
use Rattle.std.specs.Arc.{arc_value}
use Rattle.dep_recorder.specs.Recordings.{keys_in, values_in}
use Rattle.dep_recorder.proofs.trace.extend.Given as goal

-- the pairs that were there, and those of the keys so far
abbrev pub invariant-loop-i : goal.invariant-loop-i
invariant-loop-i g l = record {
  keys : keys_in l.pairs.items ≡ keys_in l.fn.pairs.items ++ map arc_value (take l.i l.keys);
  values : values_in l.pairs.items ≡ values_in l.fn.pairs.items ++ map arc_value (take l.i l.values);
  front : take l.before l.pairs.items ≡ l.fn.pairs.items;
  long : l.before ≤ length l.pairs.items;
}
