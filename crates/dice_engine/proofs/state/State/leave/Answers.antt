use Rattle.std.proofs.Common.{◌≡◌, ℕ, Some, sym, ap, ◌∙◌, subst}
use Rattle.std.specs.Prelude.{reverse}
use Rattle.journal.specs.Events.{Opened, Asking, open_at, live_at}
use Rattle.journal.specs.Law.{IsLawfulJournal}
use Rattle.dice_core.specs.Cores.{CoreSeen, events_of}
use Rattle.dice_engine.specs.Turns.{Adds}
use Rattle.dice_engine.specs.Calls.{Leaves}
use Rattle.dice_engine.proofs.Adding.{leaves_live, leaves_gone}
use Rattle.std.proofs.Common.{refl}
use Rattle.dice_engine.specs.Rows.{Keeps}
use Rattle.dice_engine.proofs.Adding.{are_dropped}
use Rattle.dice_engine.proofs.Shelved.{follows, grew_one, grew_nothing}
use Rattle.dice_engine.proofs.Lining.{core_same, grown_later}
use Rattle.dice_engine.proofs.state.State.leave.Goals as goal
use Rattle.dice_engine.proofs.state.State.leave.Goals.{then-stands, else-stands}

pub returns-clause-leaves : goal.returns-clause-leaves
returns-clause-leaves g c =
    let eq = g.U.Key.PartialEq.eq in
    let m = g.U.Universe.meaning in
    let core = c.bench.inside.core in
    let J = events_of core in
    let p = c.args.promise in
    subst
    (λ (s : CoreSeen g.row.U-Key.Denot g.row.U-Value.Denot).
    (IsLawfulJournal eq m (events_of s) → (o : Opened) → open_at (reverse (events_of s)) p.opened ≡ Some o → (a : Asking g.row.U-Key.Denot) × (live_at (reverse (events_of s)) p.ask ≡ Some a) × (a.opened ≡ p.opened) × (o.version ≡ p.version)) →
    (IsLawfulJournal eq m (events_of s) → (a : Asking g.row.U-Key.Denot) → live_at (reverse (events_of s)) p.ask ≡ Some a → (a.opened ≡ p.opened) × ((o : Opened) × (open_at (reverse (events_of s)) p.opened ≡ Some o))) →
    (n : ℕ) → (IsLawfulJournal eq m (events_of s) → (a : Asking g.row.U-Key.Denot) → live_at (reverse (events_of s)) p.ask ≡ Some a → a.by ≡ n) → Adds eq m n (events_of s) (events_of c.if-stands.core) (Leaves n p.ask p.opened p.version (events_of s)))
    (core_same (c.bench.view_is ∙ c.deref_mut-bench.ensures.value))
    (λ given closed n own.
    elim c.if-stands.branch [
      | then-stands w ↦
          (let l = w.leave.ensures.log in
          let r = closed c.in_order.ensures.lawful l.0 l.3 in
          let o = subst (λ x. open_at (reverse J) x ≡ Some l.1) r.0 l.4 in
          leaves_live eq m J (events_of c.if-stands.core) c.settled-mark.ensures.lawful n p.ask p.opened p.version l.0 l.1 l.2 r.0 (own c.in_order.ensures.lawful l.0 l.3) (given c.in_order.ensures.lawful l.1 o).3 l.4 (ap events_of w.core-is ∙ l.5))
      | else-stands w ↦
          leaves_gone eq m J (events_of c.if-stands.core) c.settled-mark.ensures.lawful n p.ask p.opened p.version (given c.in_order.ensures.lawful) (sym c.stands.ensures ∙ w.if-stands.false) (ap events_of w.core-is)
    ])
    c.requires.open c.requires.closed

pub settled-mark-requires-after_bounds : goal.settled-mark-requires-after_bounds
settled-mark-requires-after_bounds g c κs within = λ b e.
    let J = events_of c.bench.inside.core in
    follows J _ _ b.value (subst (λ (s : CoreSeen g.row.U-Key.Denot g.row.U-Value.Denot). Keeps (events_of s) c.args.self.now.mark b.value) (sym (core_same (c.bench.view_is ∙ c.deref_mut-bench.ensures.value))) (c.args.self.now.shelved b e))
    (elim c.if-stands.branch [
      | then-stands w ↦ (let l = w.leave.ensures.log in grew_one J _ l.0.by l.1.version _ _ refl (are_dropped g.row.U-Value.Denot l.1.version l.2) (ap events_of w.core-is ∙ l.5))
      | else-stands w ↦ grew_nothing J _ (ap events_of w.core-is)
    ])

pub invariant_of-bench : goal.invariant_of-bench
invariant_of-bench g c =
    let J = events_of c.bench.inside.core in (
      c.bench.invariant.0,
      grown_later g.U.Key.PartialEq.eq g.U.Universe.meaning c.true_jobs_are_one.ensures.longer J _ _
          (elim c.if-stands.branch [
            | then-stands w ↦ (let l = w.leave.ensures.log in grew_one J _ l.0.by l.1.version _ _ refl (are_dropped g.row.U-Value.Denot l.1.version l.2) (ap events_of w.core-is ∙ l.5))
            | else-stands w ↦ grew_nothing J _ (ap events_of w.core-is)
          ]) c.bench.invariant.1,
    )
