use Rattle.std.specs.Arc.{arc_value}
use Rattle.task_share.proofs.TableLemmas.{none_lives, none_asks}
use Rattle.task_share.proofs.table.Table.ended.Goals as goal

pub returns-in_default-clause-live : goal.returns-in_default-clause-live
returns-in_default-clause-live g c = none_lives g.K.PartialEq.eq c.table_in_order.ensures.equality _ (arc_value c.args.key.now) (rw c.in_default.is at c.number.ensures.none)

pub returns-in_default-clause-asks : goal.returns-in_default-clause-asks
returns-in_default-clause-asks g c = none_asks g.K.PartialEq.eq c.table_in_order.ensures.equality _ (arc_value c.args.key.now) (rw c.in_default.is at c.number.ensures.none) c.table_in_order.ensures.waits
