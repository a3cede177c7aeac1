use Rattle.std.proofs.Common.{◌≡◌, ◌++◌, map, length}
use Rattle.std.specs.List.{AllByRecursion}
use Rattle.std.specs.Vec.Iter.{into_iter_items, into_iter_len}
use Rattle.target_file.specs.Files.{IsFine}
use Rattle.target_file.specs.Seen.{call_of}
use Rattle.target_file.specs.Targets.{located}
use Rattle.target_file.specs.Lent.{all_of}
use Rattle.target_file.proofs.locating.located_all.Given as goal

-- the targets so far and those of the rest are all
abbrev pub invariant-loop-call : goal.invariant-loop-call
invariant-loop-call l = record {
  fine : AllByRecursion IsFine (map call_of (into_iter_items l.call-iterator));
  so_far : all_of l.targets.items ++ map located (map call_of (into_iter_items l.call-iterator)) ≡ map located (map call_of (into_iter_items l.initial.call-iterator));
  count : into_iter_len l.call-iterator ≡ length (into_iter_items l.call-iterator);
}
