use Rattle.std.proofs.Common.{◌≡◌, ◌+◌, [], ◌∷◌, nat_eq, reverse, Some, None, refl, sym, ap, ◌∙◌, subst}
use Rattle.std.specs.Prelude.{IsSome}
use Rattle.std.specs.Map.{lookup}
use Rattle.std.specs.Option.{option_copied, option_copied_mut}
use Rattle.journal.specs.declared.event.Told.TheVariants.{Leave}
use Rattle.journal.proofs.Indices.{opened_counts}
use Rattle.dice_core.specs.Askings.{DropsAfter, StaysAtHand}
use Rattle.dice_steps.specs.AtHand.{AtHand}
use Rattle.dice_core.specs.Sessions.{owed}
use Rattle.dice_core.specs.Cores.{world_of}
use Rattle.dice_core.proofs.JobsLemmas.{table_found, none_found}
use Rattle.dice_core.proofs.OpeningLemmas.{leave_at, leave_none, left_log, left_hand, left_stands}
use Rattle.dice_core.proofs.opening.leave_ask.Goals as goal

pub returns-in_default-session-clause-log : goal.returns-in_default-session-clause-log
returns-in_default-session-clause-log g c =
    let known = sym c.leave.ensures.result ∙ c.in-Some.is in
    absurd (leave_none (reverse c.args.desk.now.events) c.args.ask c.in-Some.asking c.args.sessions.now c.leave.new.self c.opened.result c.requires.stands.2.sessions known c.in-Some.ensures.some c.opened.ensures (sym c.session.ensures ∙ ap option_copied c.in_default-session.is))

pub returns-in_default-session-clause-kept : goal.returns-in_default-session-clause-kept
returns-in_default-session-clause-kept g c = λ es s st.
    let known = sym c.leave.ensures.result ∙ c.in-Some.is in
    absurd (leave_none (reverse c.args.desk.now.events) c.args.ask c.in-Some.asking c.args.sessions.now c.leave.new.self c.opened.result st.sessions known c.in-Some.ensures.some c.opened.ensures (sym c.session.ensures ∙ ap option_copied c.in_default-session.is))

pub returns-in_default-get_mut-clause-log : goal.returns-in_default-get_mut-clause-log
returns-in_default-get_mut-clause-log g c =
    let R = reverse c.args.desk.now.events in
    let st = c.requires.stands.2 in
    let known = sym c.leave.ensures.result ∙ c.in-Some.is in
    let w = leave_at R c.args.ask c.in-Some.asking c.args.sessions.now c.leave.new.self c.in-Some-session.session.now c.opened.result c.version-version.result st.sessions known c.in-Some.ensures.some c.opened.ensures (sym c.session.ensures ∙ ap option_copied c.in-Some-session.is) c.version-version.ensures in
    let none : lookup (nat_eq c.version-version.result) c.args.versions.now.entries ≡ None = sym c.get_mut.ensures.value ∙ ap option_copied_mut c.in_default-get_mut.is in
    absurd (none_found c.args.versions.now.entries c.version-version.result none (st.tabled c.version-version.result (opened_counts g.U.Key.PartialEq.eq g.U.Universe.meaning R c.version-version.result c.in-Some.asking.opened st.rests.lawful w.4)))

pub returns-in_default-get_mut-clause-kept : goal.returns-in_default-get_mut-clause-kept
returns-in_default-get_mut-clause-kept g c = λ es s st.
    let R = reverse c.args.desk.now.events in
    let known = sym c.leave.ensures.result ∙ c.in-Some.is in
    let w = leave_at R c.args.ask c.in-Some.asking c.args.sessions.now c.leave.new.self c.in-Some-session.session.now c.opened.result c.version-version.result st.sessions known c.in-Some.ensures.some c.opened.ensures (sym c.session.ensures ∙ ap option_copied c.in-Some-session.is) c.version-version.ensures in
    let none : lookup (nat_eq c.version-version.result) c.args.versions.now.entries ≡ None = sym c.get_mut.ensures.value ∙ ap option_copied_mut c.in_default-get_mut.is in
    absurd (none_found c.args.versions.now.entries c.version-version.result none (st.tabled c.version-version.result (opened_counts g.U.Key.PartialEq.eq g.U.Universe.meaning R c.version-version.result c.in-Some.asking.opened st.rests.lawful w.4)))

pub leave_promise-requires-clause-hand : goal.leave_promise-requires-clause-hand
leave_promise-requires-clause-hand g c κs within =
    let R = reverse c.args.desk.now.events in
    let eq = g.U.Key.PartialEq.eq in
    let m = g.U.Universe.meaning in
    let r = c.requires.stands in
    let ts = c.args.versions.now.entries in
    let v = c.version-version.result in
    let known = sym c.leave.ensures.result ∙ c.in-Some.is in
    let w = leave_at R c.args.ask c.in-Some.asking c.args.sessions.now c.leave.new.self c.in-Some-session.session.now c.opened.result v r.2.sessions known c.in-Some.ensures.some c.opened.ensures (sym c.session.ensures ∙ ap option_copied c.in-Some-session.is) c.version-version.ensures in
    let table : lookup (nat_eq v) ts ≡ Some c.in-Some-get_mut.tasks.now = sym c.get_mut.ensures.value ∙ ap option_copied_mut c.in-Some-get_mut.is in (
      owed c.leave.new.self,
      (
        world_of eq ts,
        r.0,
        r.1,
        subst (λ ps. AtHand eq m v (world_of eq ts) (owed c.leave.new.self + 1) ps c.args.desk.now r.0 r.1) (table_found ts v c.in-Some-get_mut.tasks.now table)
            (left_hand eq c.laws_of.ensures.keys m c.laws_of.ensures.lawful v 0 0 [] c.in-Some.asking c.args.desk.now c.args.desk.now ts ts r.0 r.1 c.args.sessions.now c.leave.new.self r.2 w.4 c.in-Some.ensures.some.owed),
      ),
    )

pub leave_promise-requires-clause-asked : goal.leave_promise-requires-clause-asked
leave_promise-requires-clause-asked g c κs within =
    let R = reverse c.args.desk.now.events in
    let known = sym c.leave.ensures.result ∙ c.in-Some.is in
    let w = leave_at R c.args.ask c.in-Some.asking c.args.sessions.now c.leave.new.self c.in-Some-session.session.now c.opened.result c.version-version.result c.requires.stands.2.sessions known c.in-Some.ensures.some c.opened.ensures (sym c.session.ensures ∙ ap option_copied c.in-Some-session.is) c.version-version.ensures in
    record { asking = c.in-Some.asking; live = w.1; at = w.4; his = sym c.by.ensures; key = sym c.key.ensures }

pub returns-clause-log : goal.returns-clause-log
returns-clause-log g c =
    let R = reverse c.args.desk.now.events in
    let eq = g.U.Key.PartialEq.eq in
    let ts = c.args.versions.now.entries in
    let v = c.version-version.result in
    let known = sym c.leave.ensures.result ∙ c.in-Some.is in
    let w = leave_at R c.args.ask c.in-Some.asking c.args.sessions.now c.leave.new.self c.in-Some-session.session.now c.opened.result v c.requires.stands.2.sessions known c.in-Some.ensures.some c.opened.ensures (sym c.session.ensures ∙ ap option_copied c.in-Some-session.is) c.version-version.ensures in
    let table : lookup (nat_eq v) ts ≡ Some c.in-Some-get_mut.tasks.now = sym c.get_mut.ensures.value ∙ ap option_copied_mut c.in-Some-get_mut.is in
    let l = c.leave_promise.ensures.log in
    left_log eq g.U.Universe.meaning R v c.by.result c.args.ask c.in-Some.asking w.0 l.0 c.args.desk.now c.leave_promise.new.desk ts _ c.in-Some-get_mut.tasks.now c.leave_promise.new.tasks w.1 w.2 w.3 c.by.ensures (table_found ts v c.in-Some-get_mut.tasks.now table)
    ((c.get_mut.follows.holds c.leave_promise.new.tasks).3 (subst IsSome (sym table) refl)).0 l.1

pub returns-clause-kept : goal.returns-clause-kept
returns-clause-kept g c = λ es s st.
    let R = reverse c.args.desk.now.events in
    let eq = g.U.Key.PartialEq.eq in
    let m = g.U.Universe.meaning in
    let ts = c.args.versions.now.entries in
    let v = c.version-version.result in
    let known = sym c.leave.ensures.result ∙ c.in-Some.is in
    let w = leave_at R c.args.ask c.in-Some.asking c.args.sessions.now c.leave.new.self c.in-Some-session.session.now c.opened.result v st.sessions known c.in-Some.ensures.some c.opened.ensures (sym c.session.ensures ∙ ap option_copied c.in-Some-session.is) c.version-version.ensures in
    let table : lookup (nat_eq v) ts ≡ Some c.in-Some-get_mut.tasks.now = sym c.get_mut.ensures.value ∙ ap option_copied_mut c.in-Some-get_mut.is in
    let found = table_found ts v c.in-Some-get_mut.tasks.now table in
    let l = c.leave_promise.ensures.log in
    left_stands eq c.laws_of.ensures.keys m c.laws_of.ensures.lawful v c.by.result c.args.ask l.0 c.in-Some.asking c.args.desk.now c.leave_promise.new.desk ts _ es s c.args.sessions.now c.leave.new.self st w.4 c.leave_promise.new.tasks
    ((c.get_mut.follows.holds c.leave_promise.new.tasks).3 (subst IsSome (sym table) refl)).0
    (subst (λ ps. DropsAfter eq v (Leave c.by.result c.args.ask ∷ []) l.0 ps c.leave_promise.new.tasks c.args.desk.now c.leave_promise.new.desk) (sym found) l.1)
    (subst (λ ps. StaysAtHand eq m v 1 ps c.args.desk.now c.leave_promise.new.tasks c.leave_promise.new.desk) (sym found) c.leave_promise.ensures.kept)
    c.in-Some.ensures.some.owed (c.in-Some.ensures.stands R c.by.result st.sessions)
