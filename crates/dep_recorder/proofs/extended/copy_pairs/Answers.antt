use Rattle.std.specs.Arc.{arc_value}
use Rattle.std.proofs.Common.{◌++◌}
use Rattle.dep_recorder.specs.Recordings.{keys_in, values_in}
use Rattle.dep_recorder.proofs.Steps.{added}
use Rattle.dep_recorder.proofs.extended.copy_pairs.Goals as goal

pub loop-key-preserved : goal.loop-key-preserved
loop-key-preserved g c =
    let from = c.args.from.now in
    let ps = c.loop-key.pairs.items in
    let qs = c.push_pair.new.pairs.items in
    let old = c.args.pairs.now.items in
    record {
      keys = added (λ p. arc_value p.0) from c.loop-key.key-index c.loop-key-item.result c.loop-key-test.true c.loop-key-item.is (keys_in ps) (keys_in qs) (keys_in old ++ keys_in from) c.in_ok-push_pair.ensures.keys c.loop-key.invariant.keys;
      values = added (λ p. arc_value p.1) from c.loop-key.key-index c.loop-key-item.result c.loop-key-test.true c.loop-key-item.is (values_in ps) (values_in qs) (values_in old ++ values_in from) c.in_ok-push_pair.ensures.values c.loop-key.invariant.values;
    }
