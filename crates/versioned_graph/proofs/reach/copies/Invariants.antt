use Rattle.std.proofs.Common.{◌≡◌, ◌++◌, map, drop}
use Rattle.std.specs.Arc.{arc_value}
use Rattle.versioned_graph.proofs.reach.copies.Given as goal

-- the copies so far, and what is left
abbrev pub invariant-loop-key : goal.invariant-loop-key
invariant-loop-key g l = map arc_value l.copies.items ++ map arc_value (drop l.key-index l.keys) ≡ map arc_value l.keys
