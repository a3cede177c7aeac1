use Rattle.std.proofs.Common.{rules}
use Rattle.version_epoch.proofs.open_versions.Tracker.open.Goals as goal

pub returns-clause-count : goal.returns-clause-count
returns-clause-count c = search rules

pub returns-clause-epoch : goal.returns-clause-epoch
returns-clause-epoch c = search rules
