use Rattle.std.proofs.Common.{rules}
use Rattle.version_epoch.proofs.open_versions.Tracker.standing.Goals as goal

pub returns-in-None : goal.returns-in-None
returns-in-None c = search rules
