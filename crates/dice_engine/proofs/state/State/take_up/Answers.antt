use Rattle.std.proofs.Common.{◌≡◌, sym, subst, ◌∙◌}
use Rattle.std.specs.Arc.{arc_value}
use Rattle.job_line.specs.Ends.{PutterView}
use Rattle.dice_jobs.specs.Jobs.{Assigned}
use Rattle.std.specs.Prelude.{IfOk}
use Rattle.dice_jobs.specs.Alike.{IsAnsweredIn}
use Rattle.dice_core.specs.Cores.{CoreSeen, events_of}
use Rattle.dice_engine.specs.Turns.{log_of}
use Rattle.dice_engine.specs.Jobs.{ComesHome, IsKnown, AreAnswered}
use Rattle.dice_engine.specs.Rows.{Keeps}
use Rattle.dice_engine.proofs.Shelved.{follows, grew_work}
use Rattle.dice_engine.proofs.Lining.{core_same, line_same, grown_later, known_one}
use Rattle.dice_engine.proofs.Adding.{map_if_ok}
use Rattle.dice_engine.proofs.state.State.take_up.Goals as goal

pub meet-requires-clause-own_pass : goal.meet-requires-clause-own_pass
meet-requires-clause-own_pass g c = c.requires.pass ∙ (sym (line_same (c.bench.view_is ∙ c.deref_mut-bench.ensures.value)) ∙ sym c.deref.ensures)

pub take_in-requires-after_bounds : goal.take_in-requires-after_bounds
take_in-requires-after_bounds g c κs within =
    let eq = g.U.Key.PartialEq.eq in
    let m = g.U.Universe.meaning in
    let known = subst (λ (k : CoreSeen g.row.U-Key.Denot g.row.U-Value.Denot). IfOk c.args.came (λ x. IsKnown eq m (log_of (events_of k)) c.args.pass.now.seen x.job)) (sym (core_same (c.bench.view_is ∙ c.deref_mut-bench.ensures.value))) c.requires.known in
    map_if_ok c.args.came _ _ known (λ x h. (known_one (IsAnsweredIn eq m (log_of (events_of c.bench.inside.core))) c.args.pass.now.seen c.bench.inside.putter.puts x.job c.meet.ensures.begins c.bench.invariant.1 h).truly)

pub returns-clause-home : goal.returns-clause-home
returns-clause-home g c = subst (λ (s : CoreSeen g.row.U-Key.Denot g.row.U-Value.Denot). ComesHome g.U.Key.PartialEq.eq g.U.Universe.meaning g.U.Value.PartialEq.eq c.args.came s c.take_in.new.core) (core_same (c.bench.view_is ∙ c.deref_mut-bench.ensures.value))
    c.take_in.ensures.home

pub settled-mark-requires-after_bounds : goal.settled-mark-requires-after_bounds
settled-mark-requires-after_bounds g c κs within = λ b e.
    let J = events_of c.bench.inside.core in
    follows J _ _ b.value (subst (λ (s : CoreSeen g.row.U-Key.Denot g.row.U-Value.Denot). Keeps (events_of s) c.args.self.now.mark b.value) (sym (core_same (c.bench.view_is ∙ c.deref_mut-bench.ensures.value))) (c.args.self.now.shelved b e))
    (grew_work J _ c.take_in.ensures.works)

pub invariant_of-bench : goal.invariant_of-bench
invariant_of-bench g c =
    let eq = g.U.Key.PartialEq.eq in
    let m = g.U.Universe.meaning in
    let J = events_of c.bench.inside.core in
    let I = events_of c.take_in.new.core in
    subst (λ (p : PutterView (Assigned g.row.U-Key.Denot g.row.U-Value.Denot)). (p.line ≡ arc_value c.bench.inside.line) × AreAnswered eq m (log_of I) p.puts) (sym c.meet.ensures.putter)
    (c.bench.invariant.0, grown_later eq m c.true_jobs_are_one.ensures.longer J I c.bench.inside.putter.puts (grew_work J I c.take_in.ensures.works) c.bench.invariant.1)
