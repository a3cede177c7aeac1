use Rattle.std.proofs.Common.{◌∙◌}
use Rattle.cycle_guard.proofs.WayLemmas.{within}
use Rattle.cycle_guard.proofs.AboveLemmas.{below, counted, alone}
use Rattle.cycle_guard.proofs.above.count_above.Goals as goal

pub returns-in_default : goal.returns-in_default
returns-in_default g c =
    let o = c.table_in_order.ensures in
    alone g.K.PartialEq.eq o.equality c.args.table.now o.distinct o.waits _ c.in_default.ensures.none

pub all_from-requires-clause-below : goal.all_from-requires-clause-below
all_from-requires-clause-below g c = let o = c.table_in_order.ensures in below g.K.PartialEq.eq o.equality c.args.table.now o.distinct o.waits

pub all_from-requires-clause-start : goal.all_from-requires-clause-start
all_from-requires-clause-start g c = within c.args.table.now c.in-Some.start _ c.in-Some.ensures.some

pub returns : goal.returns
returns g c =
    let o = c.table_in_order.ensures in
    counted g.K.PartialEq.eq o.equality c.args.table.now o.distinct o.waits c.in-Some.start _ c.in_ok-above.above.keys c.len.result c.in-Some.ensures.some c.in_ok-above.ensures c.len.ensures.len
