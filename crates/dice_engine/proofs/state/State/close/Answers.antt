use Rattle.std.proofs.Common.{◌≡◌, Some, subst, ◌∙◌}
use Rattle.std.specs.Prelude.{reverse}
use Rattle.journal.specs.Events.{Opened, open_at}
use Rattle.dice_core.specs.Cores.{CoreSeen, events_of}
use Rattle.dice_engine.specs.Turns.{Adds}
use Rattle.dice_engine.specs.Calls.{Closes}
use Rattle.dice_engine.proofs.Adding.{closes}
use Rattle.std.proofs.Common.{sym, refl}
use Rattle.dice_engine.specs.Rows.{Keeps}
use Rattle.dice_engine.proofs.Adding.{are_dropped}
use Rattle.dice_engine.proofs.Shelved.{follows, grew_one}
use Rattle.dice_engine.proofs.Lining.{core_same, grown_later}
use Rattle.dice_engine.proofs.state.State.close.Goals as goal

pub returns-clause-closes : goal.returns-clause-closes
returns-clause-closes g c =
    let eq = g.U.Key.PartialEq.eq in
    let m = g.U.Universe.meaning in
    let t = c.args.transaction.opened in
    subst
    (λ (s : CoreSeen g.row.U-Key.Denot g.row.U-Value.Denot). (o : Opened) × (open_at (reverse (events_of s)) t ≡ Some o) × Adds eq m o.by (events_of s) (events_of c.close.new.self) (Closes o.by t o.version))
    (core_same (c.bench.view_is ∙ c.deref_mut-bench.ensures.value))
    (let l = c.close.ensures.log in
    (l.0, l.2, closes eq m (events_of c.bench.inside.core) (events_of c.close.new.self) c.settled-mark.ensures.lawful l.0.by t l.0.version l.1 l.3))

pub settled-mark-requires-after_bounds : goal.settled-mark-requires-after_bounds
settled-mark-requires-after_bounds g c κs within = λ b e.
    let J = events_of c.bench.inside.core in
    follows J _ _ b.value (subst (λ (s : CoreSeen g.row.U-Key.Denot g.row.U-Value.Denot). Keeps (events_of s) c.args.self.now.mark b.value) (sym (core_same (c.bench.view_is ∙ c.deref_mut-bench.ensures.value))) (c.args.self.now.shelved b e))
    (let l = c.close.ensures.log in grew_one J _ l.0.by l.0.version _ _ refl (are_dropped g.row.U-Value.Denot l.0.version l.1) l.3)

pub invariant_of-bench : goal.invariant_of-bench
invariant_of-bench g c =
    let J = events_of c.bench.inside.core in (
      c.bench.invariant.0,
      grown_later g.U.Key.PartialEq.eq g.U.Universe.meaning c.true_jobs_are_one.ensures.longer J _ _
          (let l = c.close.ensures.log in grew_one J _ l.0.by l.0.version _ _ refl (are_dropped g.row.U-Value.Denot l.0.version l.1) l.3) c.bench.invariant.1,
    )
