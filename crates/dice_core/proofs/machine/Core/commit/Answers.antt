use Rattle.std.proofs.Common.{◌+◌, length, sym, subst}
use Rattle.std.specs.Prelude.{OnErr, OnOk}
use Rattle.dice_model.specs.Log.{pairs_of}
use Rattle.dice_core.specs.Commits.{CommitsEntries, differing_of}
use Rattle.dice_core.specs.Cores.{CoreSeen, CoreStands, IsAsBefore, core_of, past_of}
use Rattle.journal.specs.Events.{commits_of}
use Rattle.dice_core.proofs.ResultLemmas.{either_way, both_ok, both_err, on_err, newest_below, uncommitted, committed_stands}
use Rattle.dice_core.proofs.CoreLemmas.{stands_same}
use Rattle.dice_core.proofs.FaultLemmas.{no_fault, none_named}
use Rattle.dice_core.proofs.machine.Core.commit.Goals as goal

pub commit-requires-after_bounds : goal.commit-requires-after_bounds
commit-requires-after_bounds g c κs within =
    newest_below g.U.Key.PartialEq.eq c.laws_of.ensures.keys g.U.Universe.meaning c.laws_of.ensures.lawful c.self.inside.shared.cells c.self.inside.shared.desk.events c.self.invariant.cells _ _ c.in-Ok.ensures.0 c.in-Ok.ensures.1

pub invariant_of-self : goal.invariant_of-self
invariant_of-self g c =
    let eq = g.U.Key.PartialEq.eq in
    let m = g.U.Universe.meaning in
    let s = c.self.inside in
    let cells = c.commit.ensures.kept c.self.invariant.cells in
    let left = differing_of eq g.U.Value.PartialEq.eq m s.shared.cells (pairs_of c.args.changes.now) in
    either_way c.commit.result _ _ _ (both_ok c.commit.result _ _ c.commit.ensures.cut (both_ok c.commit.result _ _ c.commit.ensures.ok c.commit.ensures.allowed)) (both_err c.commit.result _ _ c.commit.ensures.graph c.commit.ensures.err)
    (λ w. committed_stands eq c.laws_of.ensures.keys m c.laws_of.ensures.lawful s.shared.desk c.commit.new.shared.desk s.versions.entries s.shared.graph s.shared.cells c.commit.new.shared.cells s.sessions c.self.invariant c.commit.ensures.hands cells c.args.by left c.commit.new.shared.graph w.0 w.1.0 (w.1.1 c.self.invariant.cells))
    (λ b. subst (λ gs. CoreStands eq m (core_of c.commit.new.shared.desk s.versions.entries gs c.commit.new.shared.cells s.sessions)) (sym b.0)
    (stands_same eq c.laws_of.ensures.keys m c.laws_of.ensures.lawful _ _ (uncommitted eq c.laws_of.ensures.keys m c.laws_of.ensures.lawful s.shared.desk c.commit.new.shared.desk s.versions.entries s.shared.graph s.shared.cells c.commit.new.shared.cells s.sessions c.self.invariant c.commit.ensures.hands cells b.1.events b.1.sets b.1.last) c.self.invariant))

pub returns-clause-err : goal.returns-clause-err
returns-clause-err g c =
    let eq = g.U.Key.PartialEq.eq in
    let m = g.U.Universe.meaning in
    let s = c.self.inside in
    let cells = c.commit.ensures.kept c.self.invariant.cells in
    subst (λ (v : CoreSeen g.row.U-Key.Denot g.row.U-Value.Denot). OnErr c.commit.result (IsAsBefore eq v (core_of c.commit.new.shared.desk s.versions.entries c.commit.new.shared.graph c.commit.new.shared.cells s.sessions))) c.self.view_is
    (on_err c.commit.result _ _ (both_err c.commit.result _ _ c.commit.ensures.graph c.commit.ensures.err) (λ b. subst (λ gs. IsAsBefore eq (core_of s.shared.desk s.versions.entries s.shared.graph s.shared.cells s.sessions) (core_of c.commit.new.shared.desk s.versions.entries gs c.commit.new.shared.cells s.sessions)) (sym b.0)
    (uncommitted eq c.laws_of.ensures.keys m c.laws_of.ensures.lawful s.shared.desk c.commit.new.shared.desk s.versions.entries s.shared.graph s.shared.cells c.commit.new.shared.cells s.sessions c.self.invariant c.commit.ensures.hands cells b.1.events b.1.sets b.1.last)))

pub returns-clause-cut : goal.returns-clause-cut
returns-clause-cut g c =
    let eq = g.U.Key.PartialEq.eq in
    let m = g.U.Universe.meaning in
    let veq = g.U.Value.PartialEq.eq in
    let s = c.self.inside in
    let ps = pairs_of c.args.changes.now in
    subst (λ (v : CoreSeen g.row.U-Key.Denot g.row.U-Value.Denot). OnOk c.commit.result (CommitsEntries eq m (differing_of eq veq m v.cells ps) (length (commits_of (past_of v)) + 1) v.entries c.commit.new.shared.graph)) c.self.view_is
    (subst (λ n. OnOk c.commit.result (CommitsEntries eq m (differing_of eq veq m s.shared.cells ps) (n + 1) s.shared.graph c.commit.new.shared.graph)) c.self.invariant.cells.newest c.commit.ensures.cut)

pub returns-clause-complete : goal.returns-clause-complete
returns-clause-complete g c = λ settable. none_named c.commit.result _ _ c.commit.ensures.fault (λ f h. no_fault g.U.Universe.meaning _ f settable h)
