use Rattle.std.proofs.Common.{◌≡◌, [], cond, map, take}
use Rattle.std.specs.Arc.{arc_value}
use Rattle.std.specs.List.{list_any}
use Rattle.versioned_graph.specs.Users.{users_of}
use Rattle.versioned_graph.proofs.cut.forget_all.Given as goal

abbrev pub invariant-loop-key : goal.invariant-loop-key
invariant-loop-key g l =
    let eq = g.U.Key.PartialEq.eq in
    (j : g.row.U-Key.Denot) → users_of eq l.users j ≡ cond (list_any (eq j) (map arc_value (take l.key-index l.keys))) [] (users_of eq l.fn.users j)
