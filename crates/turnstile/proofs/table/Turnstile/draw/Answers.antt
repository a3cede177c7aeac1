use Rattle.std.proofs.Common.{rules}
use Rattle.turnstile.proofs.Keeps.{draws}
use Rattle.turnstile.proofs.table.Turnstile.draw.Goals as goal

pub fetch_add-requires : goal.fetch_add-requires
fetch_add-requires g c = (search rules, search rules, draws g.S.Tale.list g.S.Tale.by g.S.Tale.version g.S.Tale.mark _ _ _ _ _ c.requires.away)
