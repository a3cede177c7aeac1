use Rattle.task_share.proofs.CascadeLemmas.{drops_all}
use Rattle.task_share.proofs.cascade.drops_unheld.Goals as goal

pub returns : goal.returns
returns g c = drops_all g.K.PartialEq.eq c.requires
