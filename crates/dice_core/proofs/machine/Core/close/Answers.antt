use Rattle.std.proofs.Common.{◌≡◌, ◌++◌, ◌∷◌, nat_eq, List, Some, map, reverse, refl, subst}
use Rattle.journal.specs.declared.event.Told.TheVariants.{Close, Drop}
use Rattle.journal.specs.Events.{Opened, open_at, open_count}
use Rattle.dice_core.specs.Cores.{CoreSeen, DropsThese, core_of, past_of, events_of}
use Rattle.dice_core.specs.Staying.{AnswersStay}
use Rattle.dice_core.proofs.StayLemmas.{closed_alone}
use Rattle.dice_core.proofs.machine.Core.close.Goals as goal

pub invariant_of-self : goal.invariant_of-self
invariant_of-self g c = c.close_in.ensures.kept c.self.inside.shared.graph c.self.inside.shared.cells c.self.invariant

pub returns-clause-log : goal.returns-clause-log
returns-clause-log g c =
    subst (λ (v : CoreSeen g.row.U-Key.Denot g.row.U-Value.Denot). (o : Opened) × (ks : List g.row.U-Key.Denot) × (open_at (past_of v) c.args.tx ≡ Some o) × (c.close_in.new.desk.events ≡ events_of v ++ (Close o.by c.args.tx ∷ map (Drop o.version) ks)) × DropsThese g.U.Key.PartialEq.eq o.version (nat_eq (open_count (reverse c.close_in.new.desk.events) o.version) 0) ks v.tables c.close_in.new.versions.entries) c.self.view_is c.close_in.ensures.log

pub returns-clause-others : goal.returns-clause-others
returns-clause-others g c =
    let eq = g.U.Key.PartialEq.eq in
    let m = g.U.Universe.meaning in
    let l = c.close_in.ensures.log in
    let s = c.self.inside in
    let after = core_of c.close_in.new.desk c.close_in.new.versions.entries s.shared.graph s.shared.cells c.close_in.new.sessions in
    subst (λ (v : CoreSeen g.row.U-Key.Denot g.row.U-Value.Denot). AnswersStay eq m v after) c.self.view_is
    (closed_alone eq c.laws_of.ensures.keys m c.laws_of.ensures.lawful (core_of s.shared.desk s.versions.entries s.shared.graph s.shared.cells s.sessions) after c.self.invariant (invariant_of-self g c) refl l.0.version l.0.by c.args.tx (nat_eq (open_count (reverse c.close_in.new.desk.events) l.0.version) 0) l.1 l.3 l.4)
