use Rattle.std.proofs.Common.{◌||◌, sym, ◌∙◌}
use Rattle.std.proofs.lemmas.List.{at_drop_all}
use Rattle.std.specs.Arc.{arc_value}
use Rattle.std.specs.List.{list_any}
use Rattle.versioned_graph.proofs.entry.add_all.Goals as goal

pub returns : goal.returns
returns g c = λ q.
    let eq = g.U.Key.PartialEq.eq in
    sym (at_drop_all (λ ks. list_any (λ a. eq q (arc_value a)) ks || list_any (λ a. eq q (arc_value a)) c.loop-key.keys) c.as_slice-key-items.result.now c.loop-key.key-index c.loop-key-test.false) ∙ c.loop-key.invariant q
