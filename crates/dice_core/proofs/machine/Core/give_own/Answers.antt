use Rattle.std.proofs.Common.{refl, sym, subst}
use Rattle.std.specs.Prelude.{OnErr, IfOk, IfNone}
use Rattle.std.proofs.lemmas.Bool.{false≢true}
use Rattle.journal.specs.Events.{commits_of}
use Rattle.dice_jobs.specs.Alike.{AnsweredTruly}
use Rattle.dice_jobs.proofs.AlikeLemmas.{alike_itself}
use Rattle.dice_core.specs.Cores.{CoreSeen, Turned, IsJobOut, IsAsBefore, core_of, past_of}
use Rattle.dice_core.specs.Givings.{stale_of, IsTakenUp}
use Rattle.dice_core.proofs.CoreLemmas.{stands_same}
use Rattle.dice_core.proofs.OwnLemmas.{own_out}
use Rattle.dice_core.proofs.ResultLemmas.{either_way, on_err}
use Rattle.dice_core.proofs.machine.Core.give_own.Goals as goal

pub invariant_of-self : goal.invariant_of-self
invariant_of-self g c =
    either_way c.take_up.result _ _ _ c.take_up.ensures.kept c.take_up.ensures.err
    (λ k. k c.self.inside.sessions c.owed-owed.ensures c.self.invariant)
    (λ b. stands_same g.U.Key.PartialEq.eq c.laws_of.ensures.keys g.U.Universe.meaning c.laws_of.ensures.lawful _ _ (b c.self.inside.sessions) c.self.invariant)

pub take_up-requires-clause-stands : goal.take_up-requires-clause-stands
take_up-requires-clause-stands g c κs within = (c.self.inside.sessions, c.self.invariant, c.owed-owed.ensures)

pub take_up-requires-clause-out : goal.take_up-requires-clause-out
take_up-requires-clause-out g c κs within =
    let eq = g.U.Key.PartialEq.eq in
    let m = g.U.Universe.meaning in
    let s = c.self.inside in
    let old = core_of s.shared.desk s.versions.entries s.shared.graph s.shared.cells s.sessions in
    let a = c.args.step.job in
    let j = c.if-not-is_like_out.ensures.0 refl in
    let truly = subst (λ (v : CoreSeen g.row.U-Key.Denot g.row.U-Value.Denot). AnsweredTruly eq m (commits_of (past_of v)) a) (sym c.self.view_is) c.requires in
    own_out eq m old c.self.invariant.rests.each (c.true_jobs_are_one.ensures.one (commits_of (past_of old))) a j.0 truly j.1 j.2

pub returns-clause-err : goal.returns-clause-err
returns-clause-err g c =
    let eq = g.U.Key.PartialEq.eq in
    let m = g.U.Universe.meaning in
    let s = c.self.inside in
    let old = core_of s.shared.desk s.versions.entries s.shared.graph s.shared.cells s.sessions in
    let a = c.args.step.job in
    let j = c.if-not-is_like_out.ensures.0 refl in
    let truly = subst (λ (v : CoreSeen g.row.U-Key.Denot g.row.U-Value.Denot). AnsweredTruly eq m (commits_of (past_of v)) a) (sym c.self.view_is) c.requires in
    let out = own_out eq m old c.self.invariant.rests.each (c.true_jobs_are_one.ensures.one (commits_of (past_of old))) a j.0 truly j.1 j.2 in
    subst (λ (v : CoreSeen g.row.U-Key.Denot g.row.U-Value.Denot). OnErr c.take_up.result (IsJobOut eq v a × IsAsBefore eq v (core_of c.take_up.new.shared.desk c.take_up.new.versions.entries c.take_up.new.shared.graph c.take_up.new.shared.cells s.sessions))) c.self.view_is
    (on_err c.take_up.result _ _ c.take_up.ensures.err (λ b. (out, b s.sessions)))

pub returns-clause-does : goal.returns-clause-does
returns-clause-does g c =
    let s = c.args.step in
    subst (λ (v : CoreSeen g.row.U-Key.Denot g.row.U-Value.Denot). IfOk c.take_up.result (λ x. IfNone (stale_of x) (Turned g.U.Key.PartialEq.eq g.U.Universe.meaning s.job.name.version v.tables c.take_up.new.versions.entries (λ ps qs. IsTakenUp g.U.Key.PartialEq.eq g.U.Universe.meaning g.U.Value.PartialEq.eq s.job.name.version s v.cells ps qs v.entries c.take_up.new.shared.graph v.desk c.take_up.new.shared.desk s.outcome)))) c.self.view_is
    c.take_up.ensures.does

pub returns-then-not-is_like_out-clause-stale : goal.returns-then-not-is_like_out-clause-stale
returns-then-not-is_like_out-clause-stale g c =
    let eq = g.U.Key.PartialEq.eq in
    let a = c.args.step.job in
    (refl, (λ o. absurd (false≢true (c.if-not-is_like_out.ensures.1 (a, subst (λ (v : CoreSeen g.row.U-Key.Denot g.row.U-Value.Denot). IsJobOut eq v a) (sym c.self.view_is) o, alike_itself a)))), refl)
