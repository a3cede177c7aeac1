use Rattle.bulk_script.proofs.Counts.{counted}
use Rattle.bulk_script.proofs.laws.requests_are_counted.Goals as goal

pub returns : goal.returns
returns c = counted
