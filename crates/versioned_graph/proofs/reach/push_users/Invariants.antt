use Rattle.std.proofs.Common.{◌≡◌, ◌++◌, drop, map, filter}
use Rattle.std.specs.Arc.{arc_value}
use Rattle.versioned_graph.specs.Edges.{is_edge}
use Rattle.versioned_graph.specs.Users.{users_of}
use Rattle.versioned_graph.proofs.reach.push_users.Given as goal

-- what was added, and what the users that are left add
abbrev pub invariant-loop-user : goal.invariant-loop-user
invariant-loop-user g l =
    map arc_value l.todo.items ++ filter (is_edge g.U.Key.PartialEq.eq l.store (arc_value l.key)) (map arc_value (drop l.user-index l.user-items))
    ≡ map arc_value l.fn.todo.items ++ filter (is_edge g.U.Key.PartialEq.eq l.store (arc_value l.key)) (users_of g.U.Key.PartialEq.eq l.fn.users (arc_value l.fn.key))
