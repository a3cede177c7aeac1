use Rattle.std.proofs.Common.{◌≡◌, ◌+◌, ◌∷◌, nat_eq, reverse, true, false, Some, None, is_some, refl, sym, ap, ◌∙◌, subst}
use Rattle.std.specs.Prelude.{IsSome}
use Rattle.std.specs.Map.{lookup}
use Rattle.std.specs.Option.{option_copied, option_copied_mut, option_map}
use Rattle.std.specs.Arc.{arc_value}
use Rattle.std.proofs.lemmas.List.{length-reverse}
use Rattle.dice_core.specs.Sessions.{opened_of, session_at, SessionsStand}
use Rattle.dice_core.specs.Cores.{world_of}
use Rattle.dice_core.specs.Joinings.{AsksForKey, IsOpenAt}
use Rattle.journal.specs.Events.{open_at}
use Rattle.journal.specs.declared.event.Told.TheVariants.{Ask}
use Rattle.dice_core.proofs.JobsLemmas.{table_found, none_found}
use Rattle.dice_core.proofs.SessionLemmas.{fresh_ask, same_stands}
use Rattle.dice_core.proofs.TurnLemmas.{opened_some, session_open, hand_open, asked_in_stands, asked_turned}
use Rattle.dice_core.proofs.opening.ask_in.Goals as goal

-- an open transaction has its session
pub unreachable-requires : goal.unreachable-requires
unreachable-requires g c =
    let R = reverse c.args.shared.now.desk.events in
    let none : session_at c.args.sessions.now c.args.tx ≡ None = sym c.session.ensures ∙ ap option_copied c.in_default.is in
    let shut : open_at R c.args.tx ≡ None = sym (c.requires.stands.1.sessions.transactions c.args.tx) ∙ ap (option_map opened_of) none in
    let clash : false ≡ true = sym (ap is_some shut) ∙ c.requires.opened in
    cc

-- and its version has a table
pub unreachable-requires-in_default-get_mut : goal.unreachable-requires-in_default-get_mut
unreachable-requires-in_default-get_mut g c =
    let r = c.requires.stands in
    let ts = c.args.versions.now.entries in
    let v = c.version-version.result in
    let known : session_at c.args.sessions.now c.args.tx ≡ Some c.in-Some.session.now = sym c.session.ensures ∙ ap option_copied c.in-Some.is in
    let w = session_open (reverse c.args.shared.now.desk.events) c.args.sessions.now c.args.tx c.in-Some.session.now v r.1.sessions known c.version-version.ensures in
    let none : lookup (nat_eq v) ts ≡ None = sym c.get_mut.ensures.value ∙ ap option_copied_mut c.in_default-get_mut.is in
    absurd (none_found ts v none (r.1.tabled v (opened_some g.U.Key.PartialEq.eq c.laws_of.ensures.keys g.U.Universe.meaning c.laws_of.ensures.lawful c.args.shared.now.desk ts c.args.shared.now.graph r.0 c.args.sessions.now r.1 v c.args.tx (opened_of c.in-Some.session.now) w.0 w.1)))

pub ask_key-requires-clause-hand : goal.ask_key-requires-clause-hand
ask_key-requires-clause-hand g c κs within =
    let r = c.requires.stands in
    let ts = c.args.versions.now.entries in
    let v = c.version-version.result in
    let z : session_at c.args.sessions.now c.args.tx ≡ Some c.in-Some.session.now = sym c.session.ensures ∙ ap option_copied c.in-Some.is in
    let w = session_open (reverse c.args.shared.now.desk.events) c.args.sessions.now c.args.tx c.in-Some.session.now v r.1.sessions z c.version-version.ensures in
    let table : lookup (nat_eq v) ts ≡ Some c.in-Some-get_mut.tasks.now = sym c.get_mut.ensures.value ∙ ap option_copied_mut c.in-Some-get_mut.is in (
      world_of g.U.Key.PartialEq.eq ts,
      r.0,
      hand_open g.U.Key.PartialEq.eq c.laws_of.ensures.keys g.U.Universe.meaning c.laws_of.ensures.lawful c.args.shared.now.desk ts c.args.shared.now.graph r.0 c.args.sessions.now r.1 v c.args.tx (opened_of c.in-Some.session.now) w.0 w.1 c.in-Some-get_mut.tasks.now (table_found ts v c.in-Some-get_mut.tasks.now table) c.owed-owed.result (c.owed-owed.ensures ∙ c.reserve_ask.ensures.same.owed),
    )

pub ask_key-requires-clause-opened : goal.ask_key-requires-clause-opened
ask_key-requires-clause-opened g c κs within =
    let z : session_at c.args.sessions.now c.args.tx ≡ Some c.in-Some.session.now = sym c.session.ensures ∙ ap option_copied c.in-Some.is in
    let w = session_open (reverse c.args.shared.now.desk.events) c.args.sessions.now c.args.tx c.in-Some.session.now c.version-version.result c.requires.stands.1.sessions z c.version-version.ensures in
    subst (λ a. IsOpenAt (reverse c.args.shared.now.desk.events) c.version-version.result a.opened) (sym c.new-asking.ensures) (opened_of c.in-Some.session.now, w.0, w.1)

pub returns-clause-asked : goal.returns-clause-asked
returns-clause-asked g c =
    let ts = c.args.versions.now.entries in
    let v = c.version-version.result in
    let z : session_at c.args.sessions.now c.args.tx ≡ Some c.in-Some.session.now = sym c.session.ensures ∙ ap option_copied c.in-Some.is in
    let w = session_open (reverse c.args.shared.now.desk.events) c.args.sessions.now c.args.tx c.in-Some.session.now v c.requires.stands.1.sessions z c.version-version.ensures in
    let table : lookup (nat_eq v) ts ≡ Some c.in-Some-get_mut.tasks.now = sym c.get_mut.ensures.value ∙ ap option_copied_mut c.in-Some-get_mut.is in
    asked_turned g.U.Key.PartialEq.eq g.U.Universe.meaning (reverse c.args.shared.now.desk.events) c.args.shared.now.desk c.ask_key.new.shared.desk ts _ v c.args.by c.args.tx (arc_value c.args.key) (opened_of c.in-Some.session.now) c.in-Some-get_mut.tasks.now c.ask_key.new.tasks c.args.shared.now.graph c.ask_key.new.shared.graph w.0 w.1 (table_found ts v c.in-Some-get_mut.tasks.now table)
    ((c.get_mut.follows.holds c.ask_key.new.tasks).3 (subst IsSome (sym table) refl)).0
    (subst (λ a. AsksForKey g.U.Key.PartialEq.eq g.U.Universe.meaning v a.by a.opened a.key c.in-Some-get_mut.tasks.now c.ask_key.new.tasks c.args.shared.now.graph c.ask_key.new.shared.graph c.args.shared.now.desk c.ask_key.new.shared.desk) c.new-asking.ensures c.in_ok-index.ensures.asked)

pub returns-clause-kept : goal.returns-clause-kept
returns-clause-kept g c = λ s st.
    let ts = c.args.versions.now.entries in
    let v = c.version-version.result in
    let z : session_at c.args.sessions.now c.args.tx ≡ Some c.in-Some.session.now = sym c.session.ensures ∙ ap option_copied c.in-Some.is in
    let w = session_open (reverse c.args.shared.now.desk.events) c.args.sessions.now c.args.tx c.in-Some.session.now v st.sessions z c.version-version.ensures in
    let table : lookup (nat_eq v) ts ≡ Some c.in-Some-get_mut.tasks.now = sym c.get_mut.ensures.value ∙ ap option_copied_mut c.in-Some-get_mut.is in
    let R = reverse c.args.shared.now.desk.events in
    asked_in_stands g.U.Key.PartialEq.eq c.laws_of.ensures.keys g.U.Universe.meaning c.laws_of.ensures.lawful c.args.shared.now.desk ts c.args.shared.now.graph s c.args.sessions.now st v c.args.tx (opened_of c.in-Some.session.now) w.0 w.1 c.in-Some-get_mut.tasks.now (table_found ts v c.in-Some-get_mut.tasks.now table) c.owed-owed.result (c.owed-owed.ensures ∙ c.reserve_ask.ensures.same.owed)
    _ c.ask_key.new.tasks c.ask_key.new.shared.desk c.ask_key.new.shared.graph c.args.by (arc_value c.args.key) c.ask.new.self ((c.get_mut.follows.holds c.ask_key.new.tasks).3 (subst IsSome (sym table) refl)).0
    (subst (λ a. AsksForKey g.U.Key.PartialEq.eq g.U.Universe.meaning v a.by a.opened a.key c.in-Some-get_mut.tasks.now c.ask_key.new.tasks c.args.shared.now.graph c.ask_key.new.shared.graph c.args.shared.now.desk c.ask_key.new.shared.desk) c.new-asking.ensures c.in_ok-index.ensures.asked)
    (c.ask.ensures.exact.owed ∙ ap (λ n. n + 1) (sym c.owed-owed.ensures)) (c.in_ok-index.ensures.kept (world_of g.U.Key.PartialEq.eq ts) s)
    (subst (λ a. SessionsStand (Ask a.by a.opened a.key ∷ R) c.ask.new.self) c.new-asking.ensures (c.ask.ensures.stands R (same_stands R c.args.sessions.now c.reserve_ask.new.self c.reserve_ask.ensures.same st.sessions) (length-reverse c.args.shared.now.desk.events ∙ sym c.in_ok-index.ensures.index)))

pub ask-requires-clause-fresh : goal.ask-requires-clause-fresh
ask-requires-clause-fresh g c κs within =
    let R = reverse c.args.shared.now.desk.events in
    fresh_ask R c.reserve_ask.new.self c.in_ok-index.index (same_stands R c.args.sessions.now c.reserve_ask.new.self c.reserve_ask.ensures.same c.requires.stands.1.sessions) (length-reverse c.args.shared.now.desk.events ∙ sym c.in_ok-index.ensures.index)
