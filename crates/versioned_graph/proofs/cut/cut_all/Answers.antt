-- One entry more is cut.
use Rattle.std.proofs.Common.{map, take, subst, List}
use Rattle.std.specs.Arc.{arc_value}
use Rattle.std.specs.List.{list_any}
use Rattle.std.proofs.lemmas.List.{take_all}
use Rattle.versioned_graph.specs.Edges.{CutBy}
use Rattle.versioned_graph.proofs.CutLemmas.{cut_more, any_more}
use Rattle.versioned_graph.proofs.cut.cut_all.Goals as goal

pub loop-key-preserved : goal.loop-key-preserved
loop-key-preserved g c =
    let eq = g.U.Key.PartialEq.eq in
    let law = c.laws_of.ensures.keys in
    let i = c.loop-key.key-index in
    let ks = c.args.keys.now in
    cut_more eq law c.args.version (λ q. list_any (eq q) (map arc_value (take i ks))) _ (arc_value c.key-item.result) c.args.store.now c.loop-key.store c.cut.new.self c.loop-key.invariant c.cut.ensures.entries c.cut.ensures.edges
    (λ q. any_more eq law ks i c.key-item.result c.loop-key-test.true c.key-item.is q)

pub returns : goal.returns
returns g c =
    let eq = g.U.Key.PartialEq.eq in
    subst (λ (ks : List _). CutBy eq c.args.version (λ q. list_any (eq q) (map arc_value ks)) c.args.store.now c.loop-key.store) (take_all c.loop-key.key-index c.args.keys.now c.loop-key-test.false) c.loop-key.invariant
