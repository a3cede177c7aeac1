use Rattle.std.proofs.Common.{rules}
use Rattle.action_digest.proofs.asked.path_key.Goals as goal

pub returns : goal.returns
returns c = search rules
