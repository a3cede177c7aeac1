use Rattle.std.proofs.Common.{◌≡◌, ◌||◌, drop}
use Rattle.std.specs.Arc.{arc_value}
use Rattle.std.specs.List.{list_any}
use Rattle.versioned_graph.proofs.entry.add_all.Given as goal

-- what is left to add, and what is there, is what both sets have
abbrev pub invariant-loop-key : goal.invariant-loop-key
invariant-loop-key g l =
    let eq = g.U.Key.PartialEq.eq in
    (q : g.row.U-Key.Denot) → (list_any (λ a. eq q (arc_value a)) (drop l.key-index l.key-items) || list_any (λ a. eq q (arc_value a)) l.keys) ≡ (list_any (λ a. eq q (arc_value a)) l.others || list_any (λ a. eq q (arc_value a)) l.fn.keys)
