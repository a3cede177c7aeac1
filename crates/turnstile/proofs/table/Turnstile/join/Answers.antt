use Rattle.std.proofs.Common.{rules}
use Rattle.turnstile.proofs.Keeps.{joins}
use Rattle.turnstile.proofs.table.Turnstile.join.Goals as goal

pub join_seat-requires : goal.join_seat-requires
join_seat-requires g c =
    (search rules, search rules, search rules, search rules, joins g.S.Tale.list g.S.Tale.by g.S.Tale.version g.S.Tale.mark _ _ _ _ _ _ c.lift-raw.ensures.free.0 c.lift-ends.ensures.free.0)
