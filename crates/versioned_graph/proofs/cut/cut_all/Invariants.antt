use Rattle.std.proofs.Common.{map, take}
use Rattle.std.specs.Arc.{arc_value}
use Rattle.std.specs.List.{list_any}
use Rattle.versioned_graph.specs.Edges.{CutBy}
use Rattle.versioned_graph.proofs.cut.cut_all.Given as goal

abbrev pub invariant-loop-key : goal.invariant-loop-key
invariant-loop-key g l =
    let eq = g.U.Key.PartialEq.eq in
    CutBy eq l.version (λ q. list_any (eq q) (map arc_value (take l.key-index l.keys))) l.fn.store l.store
