use Rattle.std.proofs.Common.{◌++◌, sym, ap, ◌∙◌, subst}
use Rattle.std.specs.Prelude.{OnOk, OnErr}
use Rattle.std.specs.Map.{keys_of}
use Rattle.dice_core.specs.Commits.{IsFirstFault, differing_of}
use Rattle.dice_core.specs.Cores.{CoreSeen, events_of, past_of}
use Rattle.journal.specs.Events.{commits_of, event_of}
use Rattle.dice_engine.specs.Turns.{Adds, log_of}
use Rattle.dice_engine.specs.Calls.{AddsNothing, Commits}
use Rattle.dice_engine.proofs.Adding.{nothing, commits, map_ok, map_err}
use Rattle.dice_engine.specs.Rows.{Keeps}
use Rattle.dice_engine.proofs.Adding.{on_either}
use Rattle.dice_engine.proofs.Shelved.{follows, grew_commit, grew_nothing}
use Rattle.dice_engine.proofs.Lining.{core_same, grown_later}
use Rattle.dice_engine.proofs.state.State.commit.Goals as goal

pub returns-clause-first : goal.returns-clause-first
returns-clause-first g c = λ f h. c.commit-result.ensures.first f (subst (λ ps. IsFirstFault g.U.Universe.meaning (keys_of ps) f) (sym c.pairs.ensures) h)

pub returns-clause-ok : goal.returns-clause-ok
returns-clause-ok g c =
    let eq = g.U.Key.PartialEq.eq in
    let veq = g.U.Value.PartialEq.eq in
    let m = g.U.Universe.meaning in
    let core = c.bench.inside.core in
    subst
    (λ (s : CoreSeen g.row.U-Key.Denot g.row.U-Value.Denot). OnOk c.commit-result.result (Adds eq m c.args.by (events_of s) (events_of c.commit-result.new.self) (Commits eq veq m c.args.by (log_of (events_of s)) c.args.updater.now)))
    (core_same (c.bench.view_is ∙ c.deref_mut-bench.ensures.value))
    (map_ok c.commit-result.result _ _ c.commit-result.ensures.events
    (λ e. commits eq m (events_of core) (events_of c.commit-result.new.self) c.settled-mark.ensures.lawful veq c.args.by core.cells c.args.updater.now
    (c.cells_are_the_inputs.ensures.newest (commits_of (past_of core)) core.cells c.in_order.ensures.cells.are)
    (e ∙ ap (λ ps. events_of core ++ event_of c.args.by (differing_of eq veq m core.cells ps)) c.pairs.ensures)))

pub returns-clause-err : goal.returns-clause-err
returns-clause-err g c =
    let eq = g.U.Key.PartialEq.eq in
    let m = g.U.Universe.meaning in
    subst
    (λ (s : CoreSeen g.row.U-Key.Denot g.row.U-Value.Denot). OnErr c.commit-result.result (Adds eq m c.args.by (events_of s) (events_of c.commit-result.new.self) AddsNothing))
    (core_same (c.bench.view_is ∙ c.deref_mut-bench.ensures.value))
    (map_err c.commit-result.result _ _ c.commit-result.ensures.err (λ b. nothing eq m _ _ c.settled-mark.ensures.lawful c.args.by b.hands.events))

pub settled-mark-requires-after_bounds : goal.settled-mark-requires-after_bounds
settled-mark-requires-after_bounds g c κs within = λ b e.
    let J = events_of c.bench.inside.core in
    follows J _ _ b.value (subst (λ (s : CoreSeen g.row.U-Key.Denot g.row.U-Value.Denot). Keeps (events_of s) c.args.self.now.mark b.value) (sym (core_same (c.bench.view_is ∙ c.deref_mut-bench.ensures.value))) (c.args.self.now.shelved b e))
    (on_either c.commit-result.result _ _ _ c.commit-result.ensures.events c.commit-result.ensures.err (λ e. grew_commit J _ c.args.by _ e) (λ h. grew_nothing J _ h.hands.events))

pub invariant_of-bench : goal.invariant_of-bench
invariant_of-bench g c =
    let J = events_of c.bench.inside.core in (
      c.bench.invariant.0,
      grown_later g.U.Key.PartialEq.eq g.U.Universe.meaning c.true_jobs_are_one.ensures.longer J _ _
          (on_either c.commit-result.result _ _ _ c.commit-result.ensures.events c.commit-result.ensures.err (λ e. grew_commit J _ c.args.by _ e) (λ h. grew_nothing J _ h.hands.events)) c.bench.invariant.1,
    )
