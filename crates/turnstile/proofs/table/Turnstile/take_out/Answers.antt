use Rattle.std.proofs.Common.{rules, ap}
use Rattle.turnstile.proofs.Keeps.{empties}
use Rattle.turnstile.proofs.Turning.{has_emptied}
use Rattle.turnstile.proofs.table.Turnstile.take_out.Goals as goal

pub load-requires : goal.load-requires
load-requires g c =
    let e = c.take-state.ensures.taken.1 in
    (search rules, search rules, empties g.S.Tale.list g.S.Tale.by g.S.Tale.version g.S.Tale.mark _ _ _ _ c.take-state.new.seat.me c.take-state.ensures.taken.0 (ap (λ q. q.0.stage) e) (ap (λ q. q.1) e))

pub returns-clause-empty : goal.returns-clause-empty
returns-clause-empty g c =
    (c.take-state.ensures.taken.0, has_emptied g.S.Tale.list g.S.Tale.by g.S.Tale.version g.S.Tale.mark c.args.seat.now.me c.take-state.new.seat.me c.load.new.seat.me c.take-state.result c.take-state.ensures.taken c.load.ensures.2)
