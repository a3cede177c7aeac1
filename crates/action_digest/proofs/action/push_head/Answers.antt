use Rattle.std.proofs.Common.{arith}
use Rattle.std.proofs.lemmas.Grind.{common_steps}
use Rattle.action_digest.proofs.action.push_head.Goals as goal

pub returns-in_ok-push_rule-in-StampFile : goal.returns-in_ok-push_rule-in-StampFile
returns-in_ok-push_rule-in-StampFile c = grind (arith, common_steps)
