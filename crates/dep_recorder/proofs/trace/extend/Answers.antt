use Rattle.std.specs.Arc.{arc_value}
use Rattle.dep_recorder.specs.Recordings.{keys_in, values_in}
use Rattle.dep_recorder.proofs.Steps.{grown, front_kept, long_kept}
use Rattle.std.proofs.Common.{arith}
use Rattle.dep_recorder.proofs.trace.extend.Goals as goal

pub loop-i-preserved : goal.loop-i-preserved
loop-i-preserved g c =
    let i = c.loop-i.i in
    let ps = c.loop-i.pairs.items in
    let qs = c.push_pair.new.pairs.items in
    let old = c.args.pairs.now.items in
    let now = c.loop-i.invariant in
    record {
      keys = grown arc_value c.args.keys.now i c.index-keys-i.result c.loop-i-test.true c.index-keys-i.is (keys_in old) (keys_in ps) (keys_in qs) c.in_default.ensures.keys now.keys;
      values = grown arc_value c.args.values.now i c.index-values-i.result (omega (arith, c.requires, c.loop-i-test.true)) c.index-values-i.is (values_in old) (values_in ps) (values_in qs) c.in_default.ensures.values now.values;
      front = front_kept c.len-before.result ps qs old c.in_default.ensures.front now.long now.front;
      long = long_kept c.len-before.result ps qs c.in_default.ensures.front now.long;
    }
