use Rattle.std.proofs.Common.{rules}
use Rattle.action_digest.proofs.buck.BuckUniverse.is_transient.Goals as goal

pub returns-in-Action-Ok : goal.returns-in-Action-Ok
returns-in-Action-Ok c = search rules
