use Rattle.std.proofs.Common.{refl, ap}
use Rattle.task_share.specs.Asked.{Tasked}
use Rattle.task_share.specs.Seen.{Share, is_for, has_by}
use Rattle.task_share.proofs.table.Table.take_asker.Goals as goal

pub returns-in_default-clause-none : goal.returns-in_default-clause-none
returns-in_default-clause-none g c = (λ j. ap (is_for (λ (p : Share g.row.K.Denot g.row.T.Denot). has_by g.K.PartialEq.eq p (Tasked j))) (rw c.in_default.is at c.number.ensures.none), λ q a. refl)
