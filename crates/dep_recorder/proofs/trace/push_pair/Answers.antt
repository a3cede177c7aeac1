use Rattle.std.specs.Arc.{arc_value}
use Rattle.dep_recorder.proofs.Steps.{pair_keys, pair_values, pair_front}
use Rattle.dep_recorder.proofs.trace.push_pair.Goals as goal

pub returns-clause-keys : goal.returns-clause-keys
returns-clause-keys g c = pair_keys c.args.pairs.now.items c.push.new.self.items c.in_ok-try_clone.field-0 c.in_ok-try_clone-2.field-0 c.in_ok-push.ensures.items (arc_value c.args.key.now) c.in_ok-try_clone.ensures

pub returns-clause-values : goal.returns-clause-values
returns-clause-values g c = pair_values c.args.pairs.now.items c.push.new.self.items c.in_ok-try_clone.field-0 c.in_ok-try_clone-2.field-0 c.in_ok-push.ensures.items (arc_value c.args.value.now) c.in_ok-try_clone-2.ensures

pub returns-clause-front : goal.returns-clause-front
returns-clause-front g c = pair_front c.args.pairs.now.items c.push.new.self.items c.in_ok-try_clone.field-0 c.in_ok-try_clone-2.field-0 c.in_ok-push.ensures.items
