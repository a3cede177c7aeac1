use Rattle.std.proofs.Common.{◌≡◌, ◌++◌, map}
use Rattle.std.specs.Arc.{arc_value}
use Rattle.dice_session.proofs.client.shared_all.Given as goal

-- the keys that are left follow those that were shared
abbrev pub invariant-loop-key : goal.invariant-loop-key
invariant-loop-key g l = map arc_value l.shared.items ++ l.key-iterator.rest.items ≡ l.fn.keys.items
