use Rattle.std.proofs.Common.{sym, subst}
use Rattle.dice_session.specs.Sole.{AreAsked}
use Rattle.dice_session.proofs.Sole.{asks_asks, are_asked, found_of_asked}
use Rattle.dice_session.proofs.client.compute_all_in.Goals as goal

pub wait_all-requires-clause-asked : goal.wait_all-requires-clause-asked
wait_all-requires-clause-asked g c κs within =
    let t = c.args.transaction.now in
    let s = c.ask_all.new.seat in
    subst (AreAsked s t.opened t.version) (sym c.as_slice.ensures.value) (are_asked s t.opened t.version c.args.keys.now c.in_ok-promises.promises.items c.in_ok-promises.ensures.asked)

pub returns-clause-asks : goal.returns-clause-asks
returns-clause-asks g c = asks_asks c.args.engine.now c.args.seat.now c.ask_all.new.seat c.wait_all.new.seat c.args.transaction.now.opened c.args.transaction.now.version c.ask_all.ensures.asks c.wait_all.ensures.asks

pub returns-clause-found : goal.returns-clause-found
returns-clause-found g c =
    let t = c.args.transaction.now in
    found_of_asked g.U.Key.PartialEq.eq g.U.Universe.meaning c.wait_all.result c.ask_all.new.seat t.opened t.version _ _ c.ask_all.ensures.asks.goes.log c.args.keys.now c.in_ok-promises.promises.items c.as_slice.result.now c.as_slice.ensures.value c.in_ok-promises.ensures.asked c.wait_all.ensures.found
