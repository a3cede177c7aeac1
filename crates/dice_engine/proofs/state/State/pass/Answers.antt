use Rattle.std.proofs.Common.{sym, ap, ◌∙◌, subst}
use Rattle.dice_core.specs.Cores.{CoreSeen, events_of}
use Rattle.dice_engine.specs.Turns.{newest_in}
use Rattle.dice_engine.specs.Rows.{Keeps}
use Rattle.dice_engine.proofs.Lining.{core_same}
use Rattle.dice_engine.proofs.state.State.pass.Goals as goal

pub invariant_of-self : goal.invariant_of-self
invariant_of-self g c =
    let same = sym (core_same (c.bench.view_is ∙ c.deref_mut-bench.ensures.value)) in
    record {
      numbered = c.args.self.now.numbered ∙ ap (λ (k : CoreSeen g.row.U-Key.Denot g.row.U-Value.Denot). newest_in (events_of k)) same;
      shelved = λ x e. subst (λ (k : CoreSeen g.row.U-Key.Denot g.row.U-Value.Denot). Keeps (events_of k) c.args.self.now.mark x.value) same (c.args.self.now.shelved x e);
      bare = c.args.self.now.bare;
    }
