use Rattle.std.proofs.Common.{sym, subst}
use Rattle.std.specs.Prelude.{OnErr}
use Rattle.dice_core.specs.Cores.{CoreSeen, CoreStands, IsAsBefore, core_of}
use Rattle.dice_core.proofs.CoreLemmas.{stands_same}
use Rattle.dice_core.proofs.ResultLemmas.{either_way, on_err}
use Rattle.dice_core.proofs.machine.Core.ask.Goals as goal

pub invariant_of-self : goal.invariant_of-self
invariant_of-self g c =
    subst (λ z. CoreStands g.U.Key.PartialEq.eq g.U.Universe.meaning (core_of c.ask_in.new.shared.desk c.ask_in.new.versions.entries c.ask_in.new.shared.graph z c.ask_in.new.sessions)) (sym c.ask_in.ensures.cells)
    (either_way c.ask_in.result _ _ _ c.ask_in.ensures.kept c.ask_in.ensures.err
    (λ k. k c.self.inside.shared.cells c.self.invariant)
    (λ b. stands_same g.U.Key.PartialEq.eq c.laws_of.ensures.keys g.U.Universe.meaning c.laws_of.ensures.lawful _ _ (b c.self.inside.shared.cells) c.self.invariant))

pub returns-clause-err : goal.returns-clause-err
returns-clause-err g c =
    let s = c.self.inside in
    subst (λ (v : CoreSeen g.row.U-Key.Denot g.row.U-Value.Denot). OnErr c.ask_in.result (IsAsBefore g.U.Key.PartialEq.eq v (core_of c.ask_in.new.shared.desk c.ask_in.new.versions.entries c.ask_in.new.shared.graph c.ask_in.new.shared.cells c.ask_in.new.sessions))) c.self.view_is
    (subst (λ z. OnErr c.ask_in.result (IsAsBefore g.U.Key.PartialEq.eq (core_of s.shared.desk s.versions.entries s.shared.graph s.shared.cells s.sessions) (core_of c.ask_in.new.shared.desk c.ask_in.new.versions.entries c.ask_in.new.shared.graph z c.ask_in.new.sessions))) (sym c.ask_in.ensures.cells)
    (on_err c.ask_in.result _ _ c.ask_in.ensures.err (λ k. k s.shared.cells)))
