use Rattle.std.proofs.Common.{rules}
use Rattle.turnstile.proofs.Keeps.{checks}
use Rattle.turnstile.proofs.table.Turnstile.newest.Goals as goal

pub load-version-requires : goal.load-version-requires
load-version-requires g c =
    (search rules, search rules, checks g.S.Tale.list g.S.Tale.by g.S.Tale.version g.S.Tale.mark _ _ _ _ _ c.lift-raw.ensures.free.0)
