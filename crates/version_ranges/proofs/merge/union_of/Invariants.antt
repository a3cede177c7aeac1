use Rattle.std.proofs.Common.{◌≤◌, ◌+◌, ◌-◌, length, drop}
use Rattle.version_ranges.proofs.Merges.{Joining}
use Rattle.version_ranges.proofs.merge.union_of.Given as goal

abbrev pub invariant-walk : goal.invariant-walk
invariant-walk l = record {
  left : l.i ≤ length l.a;
  right : l.j ≤ length l.b;
  walked : Joining l.a l.b l.union.items (drop l.i l.a) (drop l.j l.b);
}

abbrev pub decreases-walk : goal.decreases-walk
decreases-walk l = (length l.a - l.i) + (length l.b - l.j)
