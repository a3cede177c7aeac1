use Rattle.std.proofs.Common.{Some, rules}
use Rattle.action_digest.specs.declared.value.Value.TheVariants as value
use Rattle.dice_model.specs.Log.{pairs_of}
use Rattle.buck_tests.proofs.One.{one_source}
use Rattle.buck_tests.proofs.buck.one_file.Goals as goal

pub returns : goal.returns
returns c = one_source c.args.path (value.Source (Some c.args.bytes.now)) (pairs_of c.push.new.self.items) (search rules)
