use Rattle.turnstile.proofs.Turning.{slot_is_empty}
use Rattle.turnstile.proofs.table.Turnstile.end.Goals as goal

pub unreachable-requires : goal.unreachable-requires
unreachable-requires g c = c.in_default.not-None (slot_is_empty g.S.Tale.list g.S.Tale.by g.S.Tale.version g.S.Tale.mark _ _ _ _ _ _ _ _ c.take_out-state.ensures.empty.1 c.close_with-closed.ensures.values.2 c.take-none.ensures.value)
