use Rattle.std.proofs.Common.{◌≡◌, ◌++◌, [], ◌∷◌, false, List, Some, map, refl, subst}
use Rattle.journal.specs.declared.event.Told.TheVariants.{Leave, Drop}
use Rattle.journal.specs.Events.{Opened, Asking, live_at, open_at}
use Rattle.dice_core.specs.Cores.{CoreSeen, DropsThese, core_of, table_at, past_of, events_of}
use Rattle.dice_core.specs.Staying.{AnswersStay}
use Rattle.dice_core.proofs.ClosedLemmas.{drops_some}
use Rattle.dice_core.proofs.StayLemmas.{left_alone}
use Rattle.dice_core.proofs.machine.Core.leave.Goals as goal

pub invariant_of-self : goal.invariant_of-self
invariant_of-self g c = c.leave_ask.ensures.kept c.self.inside.shared.graph c.self.inside.shared.cells c.self.invariant

pub returns-clause-log : goal.returns-clause-log
returns-clause-log g c =
    let eq = g.U.Key.PartialEq.eq in
    let l = c.leave_ask.ensures.log in
    let s = c.self.inside in
    subst (λ (v : CoreSeen g.row.U-Key.Denot g.row.U-Value.Denot). (a : Asking g.row.U-Key.Denot) × (o : Opened) × (ks : List g.row.U-Key.Denot) × (live_at (past_of v) c.args.ask ≡ Some a) × (open_at (past_of v) a.opened ≡ Some o) × (c.leave_ask.new.desk.events ≡ events_of v ++ (Leave a.by c.args.ask ∷ map (Drop o.version) ks)) × DropsThese eq o.version false ks v.tables c.leave_ask.new.versions.entries) c.self.view_is
    (l.0, l.1, l.2, l.3, l.4, l.5.turned.events, drops_some eq l.1.version s.versions.entries c.leave_ask.new.versions.entries false l.2 (Leave l.0.by c.args.ask ∷ []) (table_at s.versions.entries l.1.version) l.5.tasks s.shared.desk c.leave_ask.new.desk refl refl l.5.put l.5.turned)

pub returns-clause-others : goal.returns-clause-others
returns-clause-others g c =
    let eq = g.U.Key.PartialEq.eq in
    let m = g.U.Universe.meaning in
    let l = c.leave_ask.ensures.log in
    let s = c.self.inside in
    let after = core_of c.leave_ask.new.desk c.leave_ask.new.versions.entries s.shared.graph s.shared.cells c.leave_ask.new.sessions in
    subst (λ (v : CoreSeen g.row.U-Key.Denot g.row.U-Value.Denot). AnswersStay eq m v after) c.self.view_is
    (left_alone eq c.laws_of.ensures.keys m c.laws_of.ensures.lawful (core_of s.shared.desk s.versions.entries s.shared.graph s.shared.cells s.sessions) after c.self.invariant (invariant_of-self g c) refl l.1.version l.0.by c.args.ask l.2 l.5.turned.events
    (drops_some eq l.1.version s.versions.entries c.leave_ask.new.versions.entries false l.2 (Leave l.0.by c.args.ask ∷ []) (table_at s.versions.entries l.1.version) l.5.tasks s.shared.desk c.leave_ask.new.desk refl refl l.5.put l.5.turned))
