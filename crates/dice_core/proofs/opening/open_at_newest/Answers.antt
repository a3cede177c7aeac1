use Rattle.std.proofs.Common.{◌<◌, reverse, sym, ◌∙◌, subst}
use Rattle.std.proofs.lemmas.List.{length-reverse}
use Rattle.dice_tasks.specs.Hands.{HasDeskRoom}
use Rattle.dice_core.specs.Cores.{CoreStands, core_of}
use Rattle.dice_core.proofs.SessionLemmas.{fresh_transaction, open_fits}
use Rattle.dice_core.proofs.OpeningLemmas.{opened_stands, same_tables}
use Rattle.dice_core.proofs.opening.open_at_newest.Goals as goal

pub open-requires-clause-fresh : goal.open-requires-clause-fresh
open-requires-clause-fresh g c κs within =
    let r = c.requires.stands in
    fresh_transaction (reverse c.args.desk.now.events) c.args.sessions.now c.in_ok-index.index r.2.sessions (length-reverse c.args.desk.now.events ∙ sym c.in_ok-index.ensures.0)

pub open-requires-clause-count : goal.open-requires-clause-count
open-requires-clause-count g c κs within =
    let r = c.requires.stands in
    (open_fits (reverse c.args.desk.now.events) c.args.sessions.now _ c.args.newest r.2.sessions (subst (λ n. n < _) (c.in_ok-index.ensures.0 ∙ sym (length-reverse c.args.desk.now.events)) c.in_ok-index.ensures.1)).0

pub open-requires-clause-epoch : goal.open-requires-clause-epoch
open-requires-clause-epoch g c κs within =
    let r = c.requires.stands in
    (open_fits (reverse c.args.desk.now.events) c.args.sessions.now _ c.args.newest r.2.sessions (subst (λ n. n < _) (c.in_ok-index.ensures.0 ∙ sym (length-reverse c.args.desk.now.events)) c.in_ok-index.ensures.1)).1

pub returns-clause-kept : goal.returns-clause-kept
returns-clause-kept g c = λ es s st newest.
    let eq = g.U.Key.PartialEq.eq in
    let m = g.U.Universe.meaning in
    let ts = c.args.versions.now.entries in
    let us = c.place_table.new.versions.entries in
    let R = reverse c.args.desk.now.events in
    subst (λ d. CoreStands eq m (core_of d us es s c.open.new.self)) (sym c.push.ensures)
    (opened_stands eq c.laws_of.ensures.keys m c.laws_of.ensures.lawful c.args.by c.args.newest c.in_ok-index.index c.args.desk.now c.reserve.new.self ts us es s c.args.sessions.now c.open.new.self st c.reserve.ensures.same
    (subst (λ n. HasDeskRoom n 2 0 c.reserve.new.self) c.owed.ensures c.in_ok-reserve.ensures.ok)
    (same_tables eq c.laws_of.ensures.keys m c.laws_of.ensures.lawful ts us c.place_table.ensures.same) c.place_table.ensures.same c.place_table.ensures.stays c.in_ok-place_table.ensures.ok
    c.in_ok-open.ensures.ok.owed (c.in_ok-open.ensures.stands R st.sessions (length-reverse c.args.desk.now.events ∙ sym c.in_ok-index.ensures.0)) newest)
