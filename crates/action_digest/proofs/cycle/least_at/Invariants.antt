use Rattle.std.proofs.Common.{◌≤◌, ◌<◌, [], take, get_or}
use Rattle.std.specs.List.{AllByRecursion}
use Rattle.action_digest.specs.Cycles.{IsAtMost}
use Rattle.action_digest.proofs.cycle.least_at.Given as goal

abbrev pub invariant-loop-i : goal.invariant-loop-i
invariant-loop-i l = record {
  within : l.least ≤ l.i;
  below : 0 < l.i → l.least < l.i;
  least : AllByRecursion (IsAtMost (get_or l.labels l.least [])) (take l.i l.labels);
}
