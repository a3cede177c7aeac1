use Rattle.std.proofs.Common.{sym, ap, ◌∙◌, subst}
use Rattle.std.proofs.lemmas.Option.{none-some, same_Some}
use Rattle.dice_core.specs.Cores.{events_of}
use Rattle.dice_engine.specs.Rows.{LedgeView, Keeps, ShelfHas}
use Rattle.dice_engine.proofs.Shelved.{map_some}
use Rattle.dice_engine.proofs.state.State.tell.Goals as goal

pub invariant_of-self-2 : goal.invariant_of-self-2
invariant_of-self-2 g c =
    let J = events_of c.args.self.now.bench.value.core in
    record {
      numbered = c.args.self.now.numbered;
      shelved = λ x e. subst (λ y. Keeps J c.args.self.now.mark y.value) (same_Some _ _ e)
          (subst (λ (b : LedgeView g.row.U-Key.Denot g.row.U-Value.Denot). Keeps J c.args.self.now.mark b) (sym (c.told.ensures.same ∙ c.deref_mut.ensures.value)) (c.args.self.now.shelved c.in-Some.shelf c.in-Some.is));
      bare = λ e. absurd (none-some _ (sym e));
    }

pub returns-clause-told : goal.returns-clause-told
returns-clause-told g c =
    let J = events_of c.args.self.now.bench.value.core in
    let kept = c.args.self.now.shelved c.in-Some.shelf c.in-Some.is in
    map_some c.told.result _ _ c.told.ensures.told
    (λ xs e z. subst (ShelfHas J) (sym (e ∙ (ap (λ (b : LedgeView g.row.U-Key.Denot g.row.U-Value.Denot). b.published) c.deref_mut.ensures.value ∙ (kept.1 z).1))) (kept.1 z).0)
