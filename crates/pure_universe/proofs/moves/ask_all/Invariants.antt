use Rattle.std.proofs.Common.{◌≡◌, map}
use Rattle.std.specs.Arc.{arc_value}
use Rattle.pure_universe.proofs.moves.ask_all.Given as goal

-- the keys that were taken are shared
abbrev pub invariant-loop-key : goal.invariant-loop-key
invariant-loop-key g l = map arc_value l.shared.items ≡ l.yielded
