use Rattle.std.proofs.Common.{rules}
use Rattle.turnstile.proofs.Keeps.{looks}
use Rattle.turnstile.proofs.Turning.{finds, has_one, takes_out}
use Rattle.turnstile.proofs.table.Turnstile.look.Goals as goal

pub load-served-requires : goal.load-served-requires
load-served-requires g c = (search rules, search rules, looks g.S.Tale.list g.S.Tale.by g.S.Tale.version g.S.Tale.mark _ _ _ _ _ c.requires.waits.0 c.requires.waits.1)

pub exchange-requires : goal.exchange-requires
exchange-requires g c =
    let h = finds g.S.Tale.list g.S.Tale.by g.S.Tale.version g.S.Tale.mark c.args.seat.now.me c.load-served.new.seat.me _ _ c.requires.waits c.requires.empty_handed (search rules) c.load-served.ensures.2 in
    (search rules, has_one g.S.Tale.list g.S.Tale.by g.S.Tale.version g.S.Tale.mark c.args.seat.now.me c.load-served.new.seat.me _ _ h.2)

pub returns : goal.returns
returns g c =
    let h = finds g.S.Tale.list g.S.Tale.by g.S.Tale.version g.S.Tale.mark c.args.seat.now.me c.load-served.new.seat.me _ _ c.requires.waits c.requires.empty_handed (search rules) c.load-served.ensures.2 in
    record {
      seat = search rules;
      taken = takes_out g.S.Tale.list g.S.Tale.by g.S.Tale.version g.S.Tale.mark c.args.seat.now.me c.load-served.new.seat.me c.exchange.new.seat.me _ _ c.exchange.result h.2 (h.3, h.4) c.exchange.ensures.2 c.exchange.ensures.3;
    }
