use Rattle.std.proofs.Common.{sym, subst}
use Rattle.std.specs.Prelude.{OnOk, OnErr}
use Rattle.dice_core.specs.Cores.{CoreSeen, KeepsTasksOf, IsAsBefore, core_of}
use Rattle.dice_core.proofs.CoreLemmas.{stands_same}
use Rattle.dice_core.proofs.ResultLemmas.{either_way, on_ok, on_err}
use Rattle.dice_core.proofs.machine.Core.open.Goals as goal

pub invariant_of-self : goal.invariant_of-self
invariant_of-self g c =
    either_way c.open_at_newest.result _ _ _ c.open_at_newest.ensures.kept c.open_at_newest.ensures.err
    (λ k. k c.self.inside.shared.graph c.self.inside.shared.cells c.self.invariant (sym c.last.ensures.last))
    (λ b. stands_same g.U.Key.PartialEq.eq c.laws_of.ensures.keys g.U.Universe.meaning c.laws_of.ensures.lawful _ _ (b c.self.inside.shared.graph c.self.inside.shared.cells) c.self.invariant)

pub returns-clause-tasks : goal.returns-clause-tasks
returns-clause-tasks g c =
    let s = c.self.inside in
    subst (λ (v : CoreSeen g.row.U-Key.Denot g.row.U-Value.Denot). OnOk c.open_at_newest.result (KeepsTasksOf g.U.Key.PartialEq.eq v (core_of c.open_at_newest.new.desk c.open_at_newest.new.versions.entries s.shared.graph s.shared.cells c.open_at_newest.new.sessions))) c.self.view_is
    (on_ok c.open_at_newest.result _ _ c.open_at_newest.ensures.tasks (λ k. k s.shared.graph s.shared.cells))

pub returns-clause-err : goal.returns-clause-err
returns-clause-err g c =
    let s = c.self.inside in
    subst (λ (v : CoreSeen g.row.U-Key.Denot g.row.U-Value.Denot). OnErr c.open_at_newest.result (IsAsBefore g.U.Key.PartialEq.eq v (core_of c.open_at_newest.new.desk c.open_at_newest.new.versions.entries s.shared.graph s.shared.cells c.open_at_newest.new.sessions))) c.self.view_is
    (on_err c.open_at_newest.result _ _ c.open_at_newest.ensures.err (λ k. k s.shared.graph s.shared.cells))
