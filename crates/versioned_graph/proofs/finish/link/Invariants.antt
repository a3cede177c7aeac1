use Rattle.std.proofs.Common.{◌≡◌, ◌||◌, drop}
use Rattle.std.specs.Arc.{arc_value}
use Rattle.std.specs.List.{list_any}
use Rattle.dep_recorder.specs.Recordings.{keys_in}
use Rattle.versioned_graph.specs.Edges.{is_asked}
use Rattle.versioned_graph.proofs.LinkLemmas.{IsLinked}
use Rattle.versioned_graph.proofs.finish.link.Given as goal

-- what is left to link, and what is linked, is what the whole trace asks
abbrev pub invariant-loop-i : goal.invariant-loop-i
invariant-loop-i g l =
    let eq = g.U.Key.PartialEq.eq in
    IsLinked eq (arc_value l.key) (λ q. list_any (λ a. eq q (arc_value a)) l.deps) l.fn.users l.users
    × ((q : g.row.U-Key.Denot) → (is_asked eq (drop l.i l.trace) q || list_any (λ a. eq q (arc_value a)) l.deps) ≡ is_asked eq l.trace q)

abbrev pub invariant-loop-dep : goal.invariant-loop-dep
invariant-loop-dep g l =
    let eq = g.U.Key.PartialEq.eq in
    IsLinked eq (arc_value l.key) (λ q. list_any (λ a. eq q (arc_value a)) l.deps) l.fn.users l.users
    × ((q : g.row.U-Key.Denot) → (list_any (eq q) (keys_in (drop l.dep-index l.dep-items)) || list_any (λ a. eq q (arc_value a)) l.deps) ≡ (list_any (eq q) (keys_in l.dep-items) || list_any (λ a. eq q (arc_value a)) l.initial.deps))
