use Rattle.std.proofs.Common.{sym, ap, ◌∙◌, subst}
use Rattle.dice_core.specs.Cores.{events_of}
use Rattle.dice_engine.specs.Benches.{BenchView}
use Rattle.dice_engine.specs.Turns.{newest_in}
use Rattle.dice_engine.specs.Doings.{RestsByJournal}
use Rattle.dice_engine.specs.Rows.{Keeps}
use Rattle.dice_engine.proofs.Lining.{core_same}
use Rattle.dice_engine.proofs.state.State.line_up.Goals as goal

pub returns-clause-rests : goal.returns-clause-rests
returns-clause-rests g c = subst (RestsByJournal g.U.Key.PartialEq.eq g.U.Universe.meaning) (core_same c.bench.view_is) c.in_order.ensures.rest

pub invariant_of-self : goal.invariant_of-self
invariant_of-self g c =
    let same = c.line_up.ensures.rest.0 ∙ ap (λ (b : BenchView g.row.U-Key.Denot g.row.U-Value.Denot). events_of b.core) c.deref_mut-bench.ensures.value in
    record {
      numbered = c.args.self.now.numbered ∙ ap newest_in (sym same);
      shelved = λ x e. subst (λ J. Keeps J c.args.self.now.mark x.value) (sym same) (c.args.self.now.shelved x e);
      bare = c.args.self.now.bare;
    }
