use Rattle.std.proofs.Common.{◌≡◌, [], subst, ap, ◌∙◌}
use Rattle.std.specs.Prelude.{IfSome, IfNone}
use Rattle.dice_core.specs.Cores.{CoreSeen, TakesOut, core_of, events_of}
use Rattle.dice_core.proofs.OrderLemmas.{reordered_stands, none_moved, same_events, taken_from}
use Rattle.dice_core.proofs.PublicLemmas.{some_out, some_answered}
use Rattle.dice_core.proofs.machine.Core.take_job.Goals as goal

pub take_next-requires-clause-stands : goal.take_next-requires-clause-stands
take_next-requires-clause-stands g c κs within =
    let s = c.self.inside in
    (s.shared.graph, s.shared.cells, s.sessions, reordered_stands g.U.Key.PartialEq.eq g.U.Universe.meaning s.shared.desk c.turn.new.self c.turn.ensures s.versions.entries s.shared.graph s.shared.cells s.sessions c.self.invariant)

pub invariant_of-self : goal.invariant_of-self
invariant_of-self g c =
    let s = c.self.inside in
    c.take_next.ensures.kept s.shared.graph s.shared.cells s.sessions (reordered_stands g.U.Key.PartialEq.eq g.U.Universe.meaning s.shared.desk c.turn.new.self c.turn.ensures s.versions.entries s.shared.graph s.shared.cells s.sessions c.self.invariant)

pub returns-clause-none : goal.returns-clause-none
returns-clause-none g c =
    let s = c.self.inside in
    let f = c.take_next.new.desk in
    let us = c.take_next.new.versions.entries in
    subst (λ (v : CoreSeen g.row.U-Key.Denot g.row.U-Value.Denot). IfNone c.take_next.result ((v.desk.ready ≡ []) × (core_of f us s.shared.graph s.shared.cells s.sessions ≡ v))) c.self.view_is
    (none_moved g.U.Key.PartialEq.eq g.U.Universe.meaning s.shared.desk c.turn.new.self c.turn.ensures s.versions.entries s.shared.graph s.shared.cells s.sessions f us c.take_next.result c.take_next.ensures.none)

pub returns-clause-some : goal.returns-clause-some
returns-clause-some g c =
    let s = c.self.inside in
    let e = c.turn.new.self in
    let f = c.take_next.new.desk in
    let us = c.take_next.new.versions.entries in
    let eq = g.U.Key.PartialEq.eq in
    let m = g.U.Universe.meaning in
    subst (λ (v : CoreSeen g.row.U-Key.Denot g.row.U-Value.Denot). IfSome c.take_next.result (λ j. TakesOut eq j v (core_of f us s.shared.graph s.shared.cells s.sessions))) c.self.view_is
    (taken_from eq m s.shared.desk e c.turn.ensures s.versions.entries s.shared.graph s.shared.cells s.sessions f us c.take_next.result
    (some_out eq c.laws_of.ensures.keys m c.laws_of.ensures.lawful e f s.versions.entries us s.shared.graph s.shared.graph s.shared.cells s.sessions s.sessions c.take_next.result c.take_next.ensures.some))

pub returns-clause-events : goal.returns-clause-events
returns-clause-events g c =
    let s = c.self.inside in
    same_events g.U.Key.PartialEq.eq g.U.Universe.meaning s.shared.desk c.turn.new.self c.turn.ensures s.versions.entries s.shared.graph s.shared.cells s.sessions c.take_next.new.desk c.take_next.new.versions.entries c.take_next.result c.take_next.ensures.none c.take_next.ensures.some ∙ ap events_of c.self.view_is

pub returns-clause-answered : goal.returns-clause-answered
returns-clause-answered g c =
    let s = c.self.inside in
    let e = c.turn.new.self in
    let eq = g.U.Key.PartialEq.eq in
    let m = g.U.Universe.meaning in
    some_answered eq c.laws_of.ensures.keys m c.laws_of.ensures.lawful e c.take_next.new.desk s.versions.entries c.take_next.new.versions.entries s.shared.graph s.shared.graph s.shared.cells s.sessions s.sessions
    (reordered_stands eq m s.shared.desk e c.turn.ensures s.versions.entries s.shared.graph s.shared.cells s.sessions c.self.invariant) c.take_next.result c.take_next.ensures.some
