use Rattle.std.proofs.Common.{rules}
use Rattle.turnstile.proofs.Turning.{leaves_as, has_left, raises_as, has_raised}
use Rattle.turnstile.proofs.table.Turnstile.hand_back.Goals as goal

pub fetch_add-ticket-requires : goal.fetch_add-ticket-requires
fetch_add-ticket-requires g c = (search rules, search rules, leaves_as g.S.Tale.list g.S.Tale.by g.S.Tale.version g.S.Tale.mark _ _ g.met.S.Tale.rises g.S.Tale.counts _ _ c.args.seat.now.me _ c.args.state c.requires.turn c.requires.mark c.requires.grows c.exchange-none.ensures.3)

pub fetch_max-requires : goal.fetch_max-requires
fetch_max-requires g c =
    let e = (has_left g.S.Tale.list g.S.Tale.by g.S.Tale.version g.S.Tale.mark g.S.Tale.counts c.args.seat.now.me c.exchange-none.new.seat.me _ c.args.state c.requires.turn c.exchange-none.ensures.3 c.fetch_add-ticket.ensures.2).0 in
    (search rules, search rules, raises_as g.S.Tale.list g.S.Tale.by g.S.Tale.version g.S.Tale.mark _ _ g.met.S.Tale.rises _ _ c.args.seat.now.me _ _ _ _ e (search rules))

pub returns-clause-left : goal.returns-clause-left
returns-clause-left g c =
    let e = (has_left g.S.Tale.list g.S.Tale.by g.S.Tale.version g.S.Tale.mark g.S.Tale.counts c.args.seat.now.me c.exchange-none.new.seat.me _ c.args.state c.requires.turn c.exchange-none.ensures.3 c.fetch_add-ticket.ensures.2).0 in
    has_raised g.S.Tale.list g.S.Tale.by g.S.Tale.version g.S.Tale.mark 0 0 c.args.seat.now.me c.fetch_add-ticket.new.seat.me c.fetch_max.new.seat.me _ _ 0 e c.fetch_max.ensures.2

pub returns-clause-agrees : goal.returns-clause-agrees
returns-clause-agrees g c =
    (has_left g.S.Tale.list g.S.Tale.by g.S.Tale.version g.S.Tale.mark g.S.Tale.counts c.args.seat.now.me c.exchange-none.new.seat.me _ c.args.state c.requires.turn c.exchange-none.ensures.3 c.fetch_add-ticket.ensures.2).1
