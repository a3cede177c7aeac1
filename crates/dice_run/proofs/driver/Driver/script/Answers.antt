use Rattle.std.proofs.Common.{[], Result, Ok, Err, OnOk}
use Rattle.dice_run.proofs.Ending.{closing_done, settled_confirmed}
use Rattle.dice_run.proofs.Closings.{journal_of, rests_itself}
use Rattle.dice_run.proofs.driver.Driver.script.Goals as goal

on_each : {A E : Type 0} (r : Result A E) (P : Type 0) → P → OnOk r P
on_each (Ok a) P p = p
on_each (Err e) P p = tt

pub confirm-requires-clause-ours : goal.confirm-requires-clause-ours
confirm-requires-clause-ours g c κs within = c.in_ok-settle.ensures.settled.stands.ours

pub confirm-requires-clause-live : goal.confirm-requires-clause-live
confirm-requires-clause-live g c κs within = c.in_ok-settle.ensures.settled.stands.looks.live

pub close_all-requires-clause-settled : goal.close_all-requires-clause-settled
close_all-requires-clause-settled g c = settled_confirmed c.args.engine.now c.args.script.now c.settle.new.self c.confirm.new.self c.in_ok-settle.ensures.settled c.in_ok-confirm.ensures.did

pub close_all-requires-clause-polled : goal.close_all-requires-clause-polled
close_all-requires-clause-polled g c = c.in_ok-confirm.ensures.did.unpolled

pub print-requires : goal.print-requires
print-requires g c = closing_done c.args.engine.now c.args.script.now [] c.close_all.new.self c.close_all.ensures

pub returns-then-trace-clause-journal : goal.returns-then-trace-clause-journal
returns-then-trace-clause-journal g c =
    on_each c.with_trace.result _ (journal_of c.args.engine.now c.args.script.now c.close_all.new.self c.with_trace.new.self.seat c.close_all.ensures c.with_trace.ensures.seat)

pub returns-clause-journal : goal.returns-clause-journal
returns-clause-journal g c =
    let d = c.close_all.new.self in
    journal_of c.args.engine.now c.args.script.now d d.seat c.close_all.ensures (rests_itself c.args.engine.now d.seat c.close_all.ensures.stands.ours)
