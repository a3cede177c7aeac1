use Rattle.std.proofs.Common.{◌≡◌, ◌↔◌, ◌++◌, IsTrue, List, None, map, refl, subst}
use Rattle.journal.specs.declared.event.Told.TheVariants.{Lost, Drop}
use Rattle.dice_core.specs.Cores.{CoreSeen, Turned, IsNameOut, GivesUpOnly, core_of, events_of}
use Rattle.dice_tasks.specs.Endings.{IsJobNamed, GivesUpAll}
use Rattle.dice_core.specs.Cores.{table_at}
use Rattle.dice_core.specs.Staying.{LosesWaitersOnly}
use Rattle.dice_core.proofs.StayLemmas.{loses_waiters_only}
use Rattle.dice_core.proofs.PublicLemmas.{named_iff, lost_log, gives_up_only, home_now}
use Rattle.dice_core.proofs.machine.Core.fail.Goals as goal
use Rattle.lists.specs.Lists.{Has}

pub invariant_of-self : goal.invariant_of-self
invariant_of-self g c = c.fail_named.ensures.kept c.self.inside.shared.graph c.self.inside.shared.cells c.self.inside.sessions c.self.invariant

pub returns-clause-out : goal.returns-clause-out
returns-clause-out g c =
    let eq = g.U.Key.PartialEq.eq in
    let n = c.args.name.now in
    subst (λ (v : CoreSeen g.row.U-Key.Denot g.row.U-Value.Denot). IsTrue c.fail_named.result ↔ IsNameOut eq v n) c.self.view_is
    (named_iff c.fail_named.result (IsJobNamed eq n (table_at c.self.inside.versions.entries n.version)) (λ f. (c.fail_named.ensures.other f).0) (λ t. (c.fail_named.ensures.failed t).0))

pub returns-clause-log : goal.returns-clause-log
returns-clause-log g c = λ t.
    let s = c.self.inside in
    let f = (c.fail_named.ensures.failed t).1 in
    let n = c.args.name.now in
    subst (λ (v : CoreSeen g.row.U-Key.Denot g.row.U-Value.Denot). (ls ks : List g.row.U-Key.Denot) × Has ls n.key × (c.fail_named.new.desk.events ≡ events_of v ++ (map (Lost n.version) ls ++ map (Drop n.version) ks))) c.self.view_is
    (lost_log g.U.Key.PartialEq.eq c.laws_of.ensures.keys g.U.Universe.meaning c.laws_of.ensures.lawful s.shared.desk c.fail_named.new.desk s.versions.entries c.fail_named.new.versions.entries s.shared.graph s.shared.graph s.shared.cells s.sessions s.sessions n.version n.key f.tasks f.put f.turned)

pub returns-clause-tasks : goal.returns-clause-tasks
returns-clause-tasks g c = λ t.
    let s = c.self.inside in
    let f = (c.fail_named.ensures.failed t).1 in
    let n = c.args.name.now in
    subst (λ (v : CoreSeen g.row.U-Key.Denot g.row.U-Value.Denot). GivesUpOnly g.U.Key.PartialEq.eq v (core_of c.fail_named.new.desk c.fail_named.new.versions.entries s.shared.graph s.shared.cells s.sessions)) c.self.view_is
    (gives_up_only g.U.Key.PartialEq.eq c.laws_of.ensures.keys g.U.Universe.meaning c.laws_of.ensures.lawful s.shared.desk c.fail_named.new.desk s.versions.entries c.fail_named.new.versions.entries s.shared.graph s.shared.graph s.shared.cells s.sessions s.sessions n.version n.key f.tasks f.put f.turned)

pub returns-clause-failed : goal.returns-clause-failed
returns-clause-failed g c = λ t.
    let eq = g.U.Key.PartialEq.eq in
    let n = c.args.name.now in
    subst (λ (v : CoreSeen g.row.U-Key.Denot g.row.U-Value.Denot). Turned eq g.U.Universe.meaning n.version v.tables c.fail_named.new.versions.entries (λ ps qs. GivesUpAll eq n.version None n.key ps qs v.desk c.fail_named.new.desk)) c.self.view_is
    (c.fail_named.ensures.failed t).1

pub returns-clause-home : goal.returns-clause-home
returns-clause-home g c = λ t out.
    let s = c.self.inside in
    let f = (c.fail_named.ensures.failed t).1 in
    let n = c.args.name.now in
    home_now g.U.Key.PartialEq.eq c.laws_of.ensures.keys g.U.Universe.meaning c.laws_of.ensures.lawful s.shared.desk c.fail_named.new.desk s.versions.entries c.fail_named.new.versions.entries s.shared.graph s.shared.graph s.shared.cells s.sessions s.sessions n.version n.key f.tasks f.put f.turned out.0 out.1

pub returns-clause-others : goal.returns-clause-others
returns-clause-others g c = λ t.
    let eq = g.U.Key.PartialEq.eq in
    let m = g.U.Universe.meaning in
    let s = c.self.inside in
    let f = (c.fail_named.ensures.failed t).1 in
    let n = c.args.name.now in
    let after = core_of c.fail_named.new.desk c.fail_named.new.versions.entries s.shared.graph s.shared.cells s.sessions in
    subst (λ (v : CoreSeen g.row.U-Key.Denot g.row.U-Value.Denot). LosesWaitersOnly eq m n v after) c.self.view_is
    (loses_waiters_only eq c.laws_of.ensures.keys m c.laws_of.ensures.lawful (core_of s.shared.desk s.versions.entries s.shared.graph s.shared.cells s.sessions) after c.self.invariant (invariant_of-self g c) refl refl n f.tasks f.put f.turned)
