use Rattle.std.proofs.Common.{◌≡◌, Some, sym, ap, ◌∙◌, subst}
use Rattle.std.specs.Prelude.{OnErr, reverse}
use Rattle.std.specs.Arc.{arc_value}
use Rattle.std.proofs.lemmas.Option.{same_Some}
use Rattle.journal.specs.Events.{Opened, open_at}
use Rattle.journal.specs.Law.{IsLawfulJournal}
use Rattle.dice_core.specs.Joinings.{IsToldOfMake}
use Rattle.dice_core.specs.Cores.{CoreSeen, events_of}
use Rattle.dice_engine.specs.Turns.{Adds}
use Rattle.dice_engine.specs.Calls.{AddsNothing, Asks}
use Rattle.dice_engine.proofs.Adding.{nothing, asks, always_err}
use Rattle.std.proofs.Common.{refl}
use Rattle.dice_engine.specs.Rows.{Keeps}
use Rattle.dice_engine.proofs.Adding.{on_either, are_made}
use Rattle.dice_engine.proofs.Shelved.{follows, grew_one, grew_nothing}
use Rattle.dice_engine.proofs.Lining.{core_same, grown_later}
use Rattle.dice_engine.proofs.state.State.ask.Goals as goal

pub returns-in_err-ask-clause-err : goal.returns-in_err-ask-clause-err
returns-in_err-ask-clause-err g c =
    let eq = g.U.Key.PartialEq.eq in
    let m = g.U.Universe.meaning in
    subst (λ (s : CoreSeen g.row.U-Key.Denot g.row.U-Value.Denot). OnErr c.from_residual.result (Adds eq m c.args.by (events_of s) (events_of c.ask_again-ask.new.core) AddsNothing)) (core_same (c.bench.view_is ∙ c.deref_mut-bench.ensures.value))
    (always_err c.from_residual.result _ (nothing eq m _ _ c.settled-mark.ensures.lawful c.args.by c.in_err-ask.ensures.err))

pub returns-clause-ok : goal.returns-clause-ok
returns-clause-ok g c =
    let eq = g.U.Key.PartialEq.eq in
    let m = g.U.Universe.meaning in
    let t = c.args.transaction.now in
    subst
    (λ (s : CoreSeen g.row.U-Key.Denot g.row.U-Value.Denot). (IsLawfulJournal eq m (events_of s) → (o : Opened) × (open_at (reverse (events_of s)) t.opened ≡ Some o) × (o.version ≡ t.version)) → Adds eq m c.args.by (events_of s) (events_of c.ask_again-ask.new.core) (Asks c.args.by t.opened t.version (arc_value c.args.key)))
    (core_same (c.bench.view_is ∙ c.deref_mut-bench.ensures.value))
    (λ given.
    let l = c.in_ok-ask.ensures.ok in
    let r = given c.in_order.ensures.lawful in
    let o : l.0 ≡ r.0 = same_Some _ _ (sym l.2 ∙ r.1) in
    let at : l.0.version ≡ t.version = ap (λ (x : Opened). x.version) o ∙ r.2 in
    asks eq m _ _ c.settled-mark.ensures.lawful c.args.by t.opened t.version (arc_value c.args.key) l.1
    (subst (λ v. IsToldOfMake v (arc_value c.args.key) l.1) at l.3) l.4)
    c.requires

pub settled-mark-requires-after_bounds : goal.settled-mark-requires-after_bounds
settled-mark-requires-after_bounds g c κs within = λ b e.
    let J = events_of c.bench.inside.core in
    follows J _ _ b.value (subst (λ (s : CoreSeen g.row.U-Key.Denot g.row.U-Value.Denot). Keeps (events_of s) c.args.self.now.mark b.value) (sym (core_same (c.bench.view_is ∙ c.deref_mut-bench.ensures.value))) (c.args.self.now.shelved b e))
    (on_either c.ask_again-ask.result _ _ _ c.ask_again-ask.ensures.ok c.ask_again-ask.ensures.err (λ l. grew_one J _ c.args.by l.0.version _ _ refl (are_made l.0.version (arc_value c.args.key) l.1 l.3) l.4) (λ h. grew_nothing J _ h))

pub invariant_of-bench : goal.invariant_of-bench
invariant_of-bench g c =
    let J = events_of c.bench.inside.core in (
      c.bench.invariant.0,
      grown_later g.U.Key.PartialEq.eq g.U.Universe.meaning c.true_jobs_are_one.ensures.longer J _ _
          (on_either c.ask_again-ask.result _ _ _ c.ask_again-ask.ensures.ok c.ask_again-ask.ensures.err (λ l. grew_one J _ c.args.by l.0.version _ _ refl (are_made l.0.version (arc_value c.args.key) l.1 l.3) l.4) (λ h. grew_nothing J _ h)) c.bench.invariant.1,
    )
