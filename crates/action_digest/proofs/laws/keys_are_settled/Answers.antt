use Rattle.action_digest.proofs.Reached.{all, closed, starts}
use Rattle.action_digest.proofs.laws.keys_are_settled.Goals as goal

pub returns : goal.returns
returns c C v k = c.values_are_settled.ensures.settled C v (all C v k) k (closed C v k) (starts C v k)
