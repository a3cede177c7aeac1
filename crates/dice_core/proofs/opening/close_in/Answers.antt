use Rattle.std.proofs.Common.{◌≡◌, ◌+◌, [], ◌∷◌, nat_eq, reverse, Some, None, refl, sym, ap, ◌∙◌, subst}
use Rattle.std.specs.Prelude.{IsSome}
use Rattle.std.specs.Map.{lookup}
use Rattle.std.specs.Option.{option_copied_mut}
use Rattle.journal.specs.declared.event.Told.TheVariants.{Close}
use Rattle.journal.specs.Events.{Opened, open_at, open_count}
use Rattle.dice_core.specs.Sessions.{session_at, owed}
use Rattle.dice_core.specs.Cores.{world_of, table_at}
use Rattle.dice_core.proofs.SessionLemmas.{close_fits}
use Rattle.dice_core.proofs.JobsLemmas.{table_found, none_found}
use Rattle.dice_core.proofs.TurnLemmas.{opened_some}
use Rattle.dice_core.proofs.ClosedLemmas.{closing_at, closing_hand, closed_on, closed_away, drops_some, drops_all, open_test, put_away}
use Rattle.dice_core.proofs.opening.close_in.Goals as goal

pub close-requires-after_bounds : goal.close-requires-after_bounds
close-requires-after_bounds g c κs within = λ o e.
    let st = c.requires.stands.2 in
    close_fits g.U.Key.PartialEq.eq g.U.Universe.meaning (reverse c.args.desk.now.events) c.args.sessions.now c.args.tx o st.rests.lawful st.sessions e

pub returns-in_default-get_mut-clause-log : goal.returns-in_default-get_mut-clause-log
returns-in_default-get_mut-clause-log g c =
    let r = c.requires.stands in
    let eq = g.U.Key.PartialEq.eq in
    let m = g.U.Universe.meaning in
    let R = reverse c.args.desk.now.events in
    let ts = c.args.versions.now.entries in
    let v = c.version-version.result in
    let z = c.in-Some.session in
    let o : Opened = record { by = z.by; version = v } in
    let known : session_at c.args.sessions.now c.args.tx ≡ Some z = sym c.close.ensures.result ∙ c.in-Some.is in
    let op : open_at R c.args.tx ≡ Some o = closing_at R c.args.sessions.now c.args.tx v z r.2.sessions known c.version-version.ensures in
    let none : lookup (nat_eq v) ts ≡ None = sym c.get_mut.ensures.value ∙ ap option_copied_mut c.in_default-get_mut.is in
    absurd (none_found ts v none (r.2.tabled v (opened_some eq c.laws_of.ensures.keys m c.laws_of.ensures.lawful c.args.desk.now ts r.0 r.1 c.args.sessions.now r.2 v c.args.tx o op refl)))

pub returns-in_default-get_mut-clause-kept : goal.returns-in_default-get_mut-clause-kept
returns-in_default-get_mut-clause-kept g c = λ es s st.
    let eq = g.U.Key.PartialEq.eq in
    let m = g.U.Universe.meaning in
    let R = reverse c.args.desk.now.events in
    let ts = c.args.versions.now.entries in
    let v = c.version-version.result in
    let z = c.in-Some.session in
    let o : Opened = record { by = z.by; version = v } in
    let known : session_at c.args.sessions.now c.args.tx ≡ Some z = sym c.close.ensures.result ∙ c.in-Some.is in
    let op : open_at R c.args.tx ≡ Some o = closing_at R c.args.sessions.now c.args.tx v z st.sessions known c.version-version.ensures in
    let none : lookup (nat_eq v) ts ≡ None = sym c.get_mut.ensures.value ∙ ap option_copied_mut c.in_default-get_mut.is in
    absurd (none_found ts v none (st.tabled v (opened_some eq c.laws_of.ensures.keys m c.laws_of.ensures.lawful c.args.desk.now ts es s c.args.sessions.now st v c.args.tx o op refl)))

pub close_asks-requires-clause-hand : goal.close_asks-requires-clause-hand
close_asks-requires-clause-hand g c κs within =
    let r = c.requires.stands in
    let eq = g.U.Key.PartialEq.eq in
    let m = g.U.Universe.meaning in
    let R = reverse c.args.desk.now.events in
    let ts = c.args.versions.now.entries in
    let v = c.version-version.result in
    let z = c.in-Some.session in
    let o : Opened = record { by = z.by; version = v } in
    let known : session_at c.args.sessions.now c.args.tx ≡ Some z = sym c.close.ensures.result ∙ c.in-Some.is in
    let op : open_at R c.args.tx ≡ Some o = closing_at R c.args.sessions.now c.args.tx v z r.2.sessions known c.version-version.ensures in
    let ps = c.in-Some-get_mut.tasks.now in
    let table : lookup (nat_eq v) ts ≡ Some ps = sym c.get_mut.ensures.value ∙ ap option_copied_mut c.in-Some-get_mut.is in
    let found : table_at ts v ≡ ps = table_found ts v ps table in
    (world_of eq ts, r.0, r.1, closing_hand eq c.laws_of.ensures.keys m c.laws_of.ensures.lawful c.args.desk.now ts r.0 r.1 c.args.sessions.now r.2 v c.args.tx o op refl ps found (owed c.close.new.self + 1) c.in-Some.ensures.some.owed)

pub returns-then-open_count-ne0-clause-kept : goal.returns-then-open_count-ne0-clause-kept
returns-then-open_count-ne0-clause-kept g c = λ es s st.
    let eq = g.U.Key.PartialEq.eq in
    let m = g.U.Universe.meaning in
    let R = reverse c.args.desk.now.events in
    let ts = c.args.versions.now.entries in
    let v = c.version-version.result in
    let z = c.in-Some.session in
    let o : Opened = record { by = z.by; version = v } in
    let known : session_at c.args.sessions.now c.args.tx ≡ Some z = sym c.close.ensures.result ∙ c.in-Some.is in
    let op : open_at R c.args.tx ≡ Some o = closing_at R c.args.sessions.now c.args.tx v z st.sessions known c.version-version.ensures in
    let ps = c.in-Some-get_mut.tasks.now in
    let table : lookup (nat_eq v) ts ≡ Some ps = sym c.get_mut.ensures.value ∙ ap option_copied_mut c.in-Some-get_mut.is in
    let found : table_at ts v ≡ ps = table_found ts v ps table in
    let qs = c.close_asks.new.tasks in
    let put = ((c.get_mut.follows.holds qs).3 (subst IsSome (sym table) refl)).0 in
    let left = c.close_asks.ensures.kept (world_of eq ts) es s (closing_hand eq c.laws_of.ensures.keys m c.laws_of.ensures.lawful c.args.desk.now ts es s c.args.sessions.now st v c.args.tx o op refl ps found (owed c.close.new.self + 1) c.in-Some.ensures.some.owed) in
    closed_on eq c.laws_of.ensures.keys m c.laws_of.ensures.lawful c.args.desk.now ts _ es s c.args.sessions.now c.close_asks.new.sessions st v c.args.tx o op refl ps qs found put c.close_asks.new.desk c.close_asks.ensures.sessions c.close_asks.ensures.counts left
    c.open_count.result c.open_count.ensures c.if-open_count-ne0.true

pub returns-then-open_count-ne0-clause-log : goal.returns-then-open_count-ne0-clause-log
returns-then-open_count-ne0-clause-log g c =
    let r = c.requires.stands in
    let eq = g.U.Key.PartialEq.eq in
    let R = reverse c.args.desk.now.events in
    let ts = c.args.versions.now.entries in
    let v = c.version-version.result in
    let z = c.in-Some.session in
    let o : Opened = record { by = z.by; version = v } in
    let known : session_at c.args.sessions.now c.args.tx ≡ Some z = sym c.close.ensures.result ∙ c.in-Some.is in
    let op : open_at R c.args.tx ≡ Some o = closing_at R c.args.sessions.now c.args.tx v z r.2.sessions known c.version-version.ensures in
    let ps = c.in-Some-get_mut.tasks.now in
    let table : lookup (nat_eq v) ts ≡ Some ps = sym c.get_mut.ensures.value ∙ ap option_copied_mut c.in-Some-get_mut.is in
    let found : table_at ts v ≡ ps = table_found ts v ps table in
    let qs = c.close_asks.new.tasks in
    let put = ((c.get_mut.follows.holds qs).3 (subst IsSome (sym table) refl)).0 in
    let e = c.close_asks.new.desk in
    let counts = c.close_asks.ensures.sessions.counts v in
    let l = c.close_asks.ensures.log in
    (o, l.0, op, l.1.events, drops_some eq v ts _ (nat_eq (open_count (reverse e.events) v) 0) l.0 (Close z.by c.args.tx ∷ []) ps qs c.args.desk.now e (open_test c.open_count.result _ (open_count (reverse e.events) v) c.open_count.ensures counts c.if-open_count-ne0.true) found put l.1)

pub returns-clause-log : goal.returns-clause-log
returns-clause-log g c =
    let r = c.requires.stands in
    let eq = g.U.Key.PartialEq.eq in
    let R = reverse c.args.desk.now.events in
    let ts = c.args.versions.now.entries in
    let v = c.version-version.result in
    let z = c.in-Some.session in
    let o : Opened = record { by = z.by; version = v } in
    let known : session_at c.args.sessions.now c.args.tx ≡ Some z = sym c.close.ensures.result ∙ c.in-Some.is in
    let op : open_at R c.args.tx ≡ Some o = closing_at R c.args.sessions.now c.args.tx v z r.2.sessions known c.version-version.ensures in
    let ps = c.in-Some-get_mut.tasks.now in
    let table : lookup (nat_eq v) ts ≡ Some ps = sym c.get_mut.ensures.value ∙ ap option_copied_mut c.in-Some-get_mut.is in
    let found : table_at ts v ≡ ps = table_found ts v ps table in
    let qs = c.close_asks.new.tasks in
    let put = ((c.get_mut.follows.holds qs).3 (subst IsSome (sym table) refl)).0 in
    let e = c.close_asks.new.desk in
    let counts = c.close_asks.ensures.sessions.counts v in
    let l = c.close_asks.ensures.log in
    let none : open_count (reverse e.events) v ≡ 0 = sym counts ∙ (sym c.open_count.ensures ∙ c.if-open_count-ne0.false) in
    (o, l.0, op, l.1.events, drops_all eq v ts _ (nat_eq (open_count (reverse e.events) v) 0) l.0 (Close z.by c.args.tx ∷ []) ps qs c.args.desk.now e (ap (λ n. nat_eq n 0) none) found l.1 (put_away ts _ _ v qs put c.remove.ensures.updates.0))

pub returns-clause-kept : goal.returns-clause-kept
returns-clause-kept g c = λ es s st.
    let eq = g.U.Key.PartialEq.eq in
    let m = g.U.Universe.meaning in
    let R = reverse c.args.desk.now.events in
    let ts = c.args.versions.now.entries in
    let v = c.version-version.result in
    let z = c.in-Some.session in
    let o : Opened = record { by = z.by; version = v } in
    let known : session_at c.args.sessions.now c.args.tx ≡ Some z = sym c.close.ensures.result ∙ c.in-Some.is in
    let op : open_at R c.args.tx ≡ Some o = closing_at R c.args.sessions.now c.args.tx v z st.sessions known c.version-version.ensures in
    let ps = c.in-Some-get_mut.tasks.now in
    let table : lookup (nat_eq v) ts ≡ Some ps = sym c.get_mut.ensures.value ∙ ap option_copied_mut c.in-Some-get_mut.is in
    let found : table_at ts v ≡ ps = table_found ts v ps table in
    let qs = c.close_asks.new.tasks in
    let put = ((c.get_mut.follows.holds qs).3 (subst IsSome (sym table) refl)).0 in
    let left = c.close_asks.ensures.kept (world_of eq ts) es s (closing_hand eq c.laws_of.ensures.keys m c.laws_of.ensures.lawful c.args.desk.now ts es s c.args.sessions.now st v c.args.tx o op refl ps found (owed c.close.new.self + 1) c.in-Some.ensures.some.owed) in
    closed_away eq c.laws_of.ensures.keys m c.laws_of.ensures.lawful c.args.desk.now ts _ es s c.args.sessions.now c.close_asks.new.sessions st v c.args.tx o op refl ps qs found put c.close_asks.new.desk c.close_asks.ensures.sessions c.close_asks.ensures.counts left
    _ c.remove.ensures.updates.0 c.open_count.result c.open_count.ensures c.if-open_count-ne0.false
