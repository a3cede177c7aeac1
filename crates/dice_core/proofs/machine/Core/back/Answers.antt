use Rattle.std.proofs.Common.{◌≡◌, subst}
use Rattle.std.specs.Prelude.{IfSome, IfNone}
use Rattle.dice_core.specs.Cores.{CoreSeen, IsJobOut, IsAsBefore, TakesOut, core_of}
use Rattle.dice_core.proofs.PublicLemmas.{some_map, none_out}
use Rattle.dice_core.proofs.machine.Core.back.Goals as goal

pub invariant_of-self : goal.invariant_of-self
invariant_of-self g c = c.bring_back.ensures.kept c.self.inside.shared.graph c.self.inside.shared.cells c.self.inside.sessions c.self.invariant

pub returns-clause-other : goal.returns-clause-other
returns-clause-other g c =
    let s = c.self.inside in
    subst (λ (v : CoreSeen g.row.U-Key.Denot g.row.U-Value.Denot). IfSome c.bring_back.result (λ j. (j ≡ c.args.job) × IsAsBefore g.U.Key.PartialEq.eq v (core_of c.bring_back.new.desk c.bring_back.new.versions.entries s.shared.graph s.shared.cells s.sessions) × (IsJobOut g.U.Key.PartialEq.eq v c.args.job → ⊥))) c.self.view_is
    (some_map c.bring_back.result _ _ c.bring_back.ensures.other (λ j h. (h.0, h.1 s.shared.graph s.shared.cells s.sessions, h.2)))

pub returns-clause-back : goal.returns-clause-back
returns-clause-back g c =
    let s = c.self.inside in
    let eq = g.U.Key.PartialEq.eq in
    let d = c.bring_back.new.desk in
    let us = c.bring_back.new.versions.entries in
    subst (λ (v : CoreSeen g.row.U-Key.Denot g.row.U-Value.Denot). IfNone c.bring_back.result (IsJobOut eq v c.args.job × TakesOut eq c.args.job (core_of d us s.shared.graph s.shared.cells s.sessions) v)) c.self.view_is
    (none_out eq c.laws_of.ensures.keys g.U.Universe.meaning c.laws_of.ensures.lawful s.shared.desk d s.versions.entries us s.shared.graph s.shared.graph s.shared.cells s.sessions s.sessions c.args.job c.bring_back.result c.bring_back.ensures.back)
