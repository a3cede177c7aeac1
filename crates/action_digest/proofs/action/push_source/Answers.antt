use Rattle.std.proofs.Common.{rules}
use Rattle.action_digest.proofs.action.push_source.Goals as goal

pub returns-in_default : goal.returns-in_default
returns-in_default c = search rules
