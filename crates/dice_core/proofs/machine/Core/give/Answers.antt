use Rattle.std.proofs.Common.{subst}
use Rattle.std.specs.Prelude.{OnErr, IfOk, IfNone}
use Rattle.dice_core.specs.Cores.{CoreSeen, Turned, IsJobOut, IsAsBefore, core_of}
use Rattle.dice_core.specs.Givings.{stale_of, IsTakenUp}
use Rattle.dice_core.proofs.CoreLemmas.{stands_same}
use Rattle.dice_core.proofs.ResultLemmas.{either_way, on_err}
use Rattle.dice_core.proofs.machine.Core.give.Goals as goal

pub invariant_of-self : goal.invariant_of-self
invariant_of-self g c =
    either_way c.give_in.result _ _ _ c.give_in.ensures.kept c.give_in.ensures.err
    (λ k. k c.self.inside.sessions c.owed-owed.ensures c.self.invariant)
    (λ b. stands_same g.U.Key.PartialEq.eq c.laws_of.ensures.keys g.U.Universe.meaning c.laws_of.ensures.lawful _ _ (b.1 c.self.inside.sessions) c.self.invariant)

pub returns-clause-err : goal.returns-clause-err
returns-clause-err g c =
    let s = c.self.inside in
    subst (λ (v : CoreSeen g.row.U-Key.Denot g.row.U-Value.Denot). OnErr c.give_in.result (IsJobOut g.U.Key.PartialEq.eq v c.args.step.job × IsAsBefore g.U.Key.PartialEq.eq v (core_of c.give_in.new.shared.desk c.give_in.new.versions.entries c.give_in.new.shared.graph c.give_in.new.shared.cells s.sessions))) c.self.view_is
    (on_err c.give_in.result _ _ c.give_in.ensures.err (λ b. (b.0, b.1 s.sessions)))

pub returns-clause-does : goal.returns-clause-does
returns-clause-does g c =
    let s = c.args.step in
    subst (λ (v : CoreSeen g.row.U-Key.Denot g.row.U-Value.Denot). IfOk c.give_in.result (λ x. IfNone (stale_of x) (Turned g.U.Key.PartialEq.eq g.U.Universe.meaning s.job.name.version v.tables c.give_in.new.versions.entries (λ ps qs. IsTakenUp g.U.Key.PartialEq.eq g.U.Universe.meaning g.U.Value.PartialEq.eq s.job.name.version s v.cells ps qs v.entries c.give_in.new.shared.graph v.desk c.give_in.new.shared.desk s.outcome)))) c.self.view_is
    c.give_in.ensures.does
