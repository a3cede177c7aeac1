use Rattle.action_digest.proofs.Labels.{full_is}
use Rattle.action_digest.proofs.laws.labels_in_full.Goals as goal

pub returns : goal.returns
returns c home text n = full_is home text n
