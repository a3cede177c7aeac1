use Rattle.std.proofs.Common.{subst, rules, ◌∙◌}
use Rattle.std.specs.Prelude.{OnErr}
use Rattle.dice_core.specs.Cores.{CoreSeen, events_of}
use Rattle.dice_engine.specs.Turns.{Adds}
use Rattle.dice_engine.specs.Calls.{AddsNothing, Opens}
use Rattle.dice_engine.proofs.Adding.{nothing, opens, always_err}
use Rattle.std.proofs.Common.{[], sym, refl}
use Rattle.dice_engine.specs.Rows.{Keeps}
use Rattle.dice_engine.proofs.Adding.{on_either}
use Rattle.dice_engine.proofs.Shelved.{follows, grew_one, grew_nothing}
use Rattle.dice_engine.proofs.Lining.{core_same, grown_later}
use Rattle.dice_engine.proofs.state.State.open.Goals as goal

pub returns-in_err-opened-clause-err : goal.returns-in_err-opened-clause-err
returns-in_err-opened-clause-err g c =
    let eq = g.U.Key.PartialEq.eq in
    let m = g.U.Universe.meaning in
    subst (λ (s : CoreSeen g.row.U-Key.Denot g.row.U-Value.Denot). OnErr c.from_residual.result (Adds eq m c.args.by (events_of s) (events_of c.open-opened.new.self) AddsNothing)) (core_same (c.bench.view_is ∙ c.deref_mut-bench.ensures.value))
    (always_err c.from_residual.result _ (nothing eq m _ _ c.settled-mark.ensures.lawful c.args.by c.in_err-opened.ensures.err.hands.events))

pub returns-clause-named : goal.returns-clause-named
returns-clause-named g c = search rules

pub returns-clause-ok : goal.returns-clause-ok
returns-clause-ok g c =
    let eq = g.U.Key.PartialEq.eq in
    let m = g.U.Universe.meaning in
    subst (λ (s : CoreSeen g.row.U-Key.Denot g.row.U-Value.Denot). Adds eq m c.args.by (events_of s) (events_of c.open-opened.new.self) (Opens c.args.by (events_of s))) (core_same (c.bench.view_is ∙ c.deref_mut-bench.ensures.value))
    (opens eq m _ _ c.settled-mark.ensures.lawful c.args.by c.in_ok-opened.ensures.events)

pub settled-mark-requires-after_bounds : goal.settled-mark-requires-after_bounds
settled-mark-requires-after_bounds g c κs within = λ b e.
    let J = events_of c.bench.inside.core in
    follows J _ _ b.value (subst (λ (s : CoreSeen g.row.U-Key.Denot g.row.U-Value.Denot). Keeps (events_of s) c.args.self.now.mark b.value) (sym (core_same (c.bench.view_is ∙ c.deref_mut-bench.ensures.value))) (c.args.self.now.shelved b e))
    (on_either c.open-opened.result _ _ _ c.open-opened.ensures.events c.open-opened.ensures.err (λ e. grew_one J _ c.args.by 0 _ [] refl tt e) (λ h. grew_nothing J _ h.hands.events))

pub invariant_of-bench : goal.invariant_of-bench
invariant_of-bench g c =
    let J = events_of c.bench.inside.core in (
      c.bench.invariant.0,
      grown_later g.U.Key.PartialEq.eq g.U.Universe.meaning c.true_jobs_are_one.ensures.longer J _ _
          (on_either c.open-opened.result _ _ _ c.open-opened.ensures.events c.open-opened.ensures.err (λ e. grew_one J _ c.args.by 0 _ [] refl tt e) (λ h. grew_nothing J _ h.hands.events)) c.bench.invariant.1,
    )
