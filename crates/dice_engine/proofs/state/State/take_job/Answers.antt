use Rattle.std.proofs.Common.{sym, ap, ◌∙◌, subst}
use Rattle.dice_core.specs.Cores.{CoreSeen, events_of}
use Rattle.dice_engine.specs.Turns.{newest_in, Adds}
use Rattle.dice_engine.specs.Calls.{AddsNothing}
use Rattle.dice_engine.specs.Jobs.{GoesOut}
use Rattle.dice_engine.proofs.Adding.{nothing}
use Rattle.dice_engine.proofs.Jobs.{goes_out}
use Rattle.dice_engine.specs.Rows.{Keeps}
use Rattle.dice_engine.proofs.Lining.{core_same}
use Rattle.dice_engine.proofs.state.State.take_job.Goals as goal

pub returns-clause-adds : goal.returns-clause-adds
returns-clause-adds g c = subst (λ (s : CoreSeen g.row.U-Key.Denot g.row.U-Value.Denot). Adds g.U.Key.PartialEq.eq g.U.Universe.meaning 0 (events_of s) (events_of c.take_job-job.new.self) AddsNothing) (core_same (c.bench.view_is ∙ c.deref_mut-bench.ensures.value))
    (nothing g.U.Key.PartialEq.eq g.U.Universe.meaning _ _ c.in_order.ensures.lawful 0 c.take_job-job.ensures.events)

pub returns-clause-goes : goal.returns-clause-goes
returns-clause-goes g c = subst (λ (s : CoreSeen g.row.U-Key.Denot g.row.U-Value.Denot). GoesOut g.U.Key.PartialEq.eq c.take_job-job.result s c.take_job-job.new.self) (core_same (c.bench.view_is ∙ c.deref_mut-bench.ensures.value))
    (goes_out g.U.Key.PartialEq.eq c.take_job-job.result c.bench.inside.core c.take_job-job.new.self c.take_job-job.ensures.some c.take_job-job.ensures.none)

pub invariant_of-self : goal.invariant_of-self
invariant_of-self g c =
    let same = c.take_job-job.ensures.events ∙ ap events_of (core_same (c.bench.view_is ∙ c.deref_mut-bench.ensures.value)) in
    record {
      numbered = c.args.self.now.numbered ∙ ap newest_in (sym same);
      shelved = λ x e. subst (λ J. Keeps J c.args.self.now.mark x.value) (sym same) (c.args.self.now.shelved x e);
      bare = c.args.self.now.bare;
    }
