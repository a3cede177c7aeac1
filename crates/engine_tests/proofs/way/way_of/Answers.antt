use Rattle.std.proofs.Common.{sym, subst}
use Rattle.journal.specs.Events.{NotClosed}
use Rattle.dice_engine.proofs.Callers.{saw_own, saw_after, turn_open, open_after_work}
use Rattle.engine_tests.proofs.way.way_of.Goals as goal

pub wait-requires-clause-ask : goal.wait-requires-clause-ask
wait-requires-clause-ask g c = λ κs o.
    saw_after _ _ _ _ _ _ _ _ c.work-worked.ensures.later.0 (saw_after _ _ _ _ _ _ _ _ c.in_ok-first.ensures.turn.later (saw_own _ _ _ _ _ c.in_ok-promise.ensures.has))

pub close-requires-clause-open : goal.close-requires-clause-open
close-requires-clause-open g c = λ κs o.
    let t = c.in_ok-transaction.transaction in
    let a = c.in_ok-promise.ensures.ok in
    let p = c.in_ok-first.ensures.turn in
    let l = c.in_ok-lines.ensures.turn in
    open_after_work _ _ _ _ _ _ c.work-idle.ensures.later (turn_open _ _ _ _ _ l t.opened t.version (subst (NotClosed t.opened) (sym l.adds.did.0) tt)
    (open_after_work _ _ _ _ _ _ c.in_ok-last.ensures.later (open_after_work _ _ _ _ _ _ c.work-worked.ensures.later
    (turn_open _ _ _ _ _ p t.opened t.version (subst (NotClosed t.opened) (sym p.adds.did.0) tt)
    (turn_open _ _ _ _ _ a t.opened t.version (subst (NotClosed t.opened) (sym a.adds.did.0.0) tt) c.in_ok-transaction.ensures.has)))))

pub poll-requires-2-clause-ask : goal.poll-requires-2-clause-ask
poll-requires-2-clause-ask g c = λ κs o.
    saw_after _ _ _ _ _ _ _ _ c.close.ensures.turn.later (saw_after _ _ _ _ _ _ _ _ c.work-idle.ensures.later.0 (saw_after _ _ _ _ _ _ _ _ c.in_ok-lines.ensures.turn.later
    (saw_after _ _ _ _ _ _ _ _ c.in_ok-last.ensures.later.0 (saw_after _ _ _ _ _ _ _ _ c.work-worked.ensures.later.0 (saw_after _ _ _ _ _ _ _ _ c.in_ok-first.ensures.turn.later
    (saw_own _ _ _ _ _ c.in_ok-promise.ensures.has))))))
