use Rattle.std.proofs.Common.{sym, subst}
use Rattle.journal.specs.Events.{NotClosed}
use Rattle.dice_engine.proofs.Callers.{turn_open, open_after_work}
use Rattle.watcher.proofs.build.build_version.Goals as goal

pub close-requires-clause-open : goal.close-requires-clause-open
close-requires-clause-open g c = λ κs o.
    let t = c.in_ok-transaction.transaction in
    let a = c.in_ok-promise.ensures.ok in
    open_after_work _ _ _ _ _ _ c.in_ok-wait.ensures.later (turn_open _ _ _ _ _ a t.opened t.version (subst (NotClosed t.opened) (sym a.adds.did.0.0) tt) c.in_ok-transaction.ensures.has)
