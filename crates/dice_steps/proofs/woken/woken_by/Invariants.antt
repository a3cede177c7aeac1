use Rattle.std.proofs.Common.{length, map, take}
use Rattle.std.specs.Arc.{arc_value}
use Rattle.std.specs.Iterator.Adapters.{zip_first}
use Rattle.std.specs.Slice.Iter.{iter_rest}
use Rattle.dice_steps.proofs.WokenLemmas.{SoFar}
use Rattle.dice_steps.proofs.woken.woken_by.Given as goal

-- those that wait for the key alone among the askers so far
abbrev pub invariant-loop-asker : goal.invariant-loop-asker
invariant-loop-asker g l = SoFar g.U.Key.PartialEq.eq g.U.Universe.meaning l.shared.cells l.version (arc_value l.key) (arc_value l.value) l.tasks (map arc_value (take (length l.yielded) (iter_rest (zip_first l.initial.asker-iterator)))) l.woken.items
