use Rattle.std.proofs.Common.{sym, subst}
use Rattle.journal.specs.Events.{NotLeft}
use Rattle.dice_engine.proofs.Callers.{ask_later, same_number}
use Rattle.engine_tests.proofs.way.waited.Goals as goal

pub leave-requires-clause-ask : goal.leave-requires-clause-ask
leave-requires-clause-ask g c = λ κs o.
    let h = c.in_ok-promise.ensures.has in
    let l = c.in_ok-last.ensures.later in
    ask_later _ _ _ _ _ _ (same_number _ _ _ _ l.0) l.0.begins (subst (NotLeft _) (sym l.1) h.not_left) h
