use Rattle.std.proofs.Common.{◌+◌, length, map}
use Rattle.std.specs.Arc.{arc_value}
use Rattle.std.specs.List.{list_any}
use Rattle.versioned_graph.proofs.Walk.{IsReach, unseen}
use Rattle.versioned_graph.proofs.reach.walk.Given as goal

abbrev pub invariant-loop-key : goal.invariant-loop-key
invariant-loop-key g l =
    let eq = g.U.Key.PartialEq.eq in
    IsReach eq l.store (map arc_value l.fn.todo.items) (λ q. list_any (λ a. eq q (arc_value a)) l.seen) (map arc_value l.reached.items) (map arc_value l.todo.items)

abbrev pub decreases-loop-key : goal.decreases-loop-key
decreases-loop-key g l =
    let eq = g.U.Key.PartialEq.eq in
    unseen (λ q. list_any (λ a. eq q (arc_value a)) l.seen) l.users + length l.todo.items
