use Rattle.std.specs.Arc.{arc_value}
use Rattle.task_share.specs.Asked.{Tasked}
use Rattle.task_share.proofs.TableLemmas.{none_left, none_leaves}
use Rattle.task_share.proofs.table.Table.leave_by_task.Goals as goal

pub returns-in_default-clause-asks : goal.returns-in_default-clause-asks
returns-in_default-clause-asks g c = none_left g.K.PartialEq.eq c.table_in_order.ensures.equality _ (arc_value c.args.key.now) (rw c.in_default.is at c.number.ensures.none) (Tasked (arc_value c.args.asker.now))

pub returns-in_default-number-clause-asks : goal.returns-in_default-number-clause-asks
returns-in_default-number-clause-asks g c = none_leaves g.K.PartialEq.eq c.table_in_order.ensures.equality _ (arc_value c.args.asker.now) (rw c.in_default-number.is at c.number-2.ensures.none) c.table_in_order.ensures.waits (arc_value c.args.key.now)
