use Rattle.std.proofs.Common.{rules}
use Rattle.action_digest.proofs.buck.package_by.Goals as goal

pub returns-in_ok-target_file-in-Err-Bad : goal.returns-in_ok-target_file-in-Err-Bad
returns-in_ok-target_file-in-Err-Bad c = search rules
