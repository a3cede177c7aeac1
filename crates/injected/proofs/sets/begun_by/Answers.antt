-- The versions rise, so a binary search finds the place.
use Rattle.std.proofs.Common.{◌-◌, leb, get_or, arith, rules}
use Rattle.std.proofs.lemmas.Bool.{leb-true, leb-false}
use Rattle.std.proofs.lemmas.List.Sorted.{IsPartitionPoint-from_clause, IsPartitionedBy-leb}
use Rattle.injected.proofs.Histories.{versions_rise}
use Rattle.injected.proofs.sets.begun_by.Goals as goal

pub returns : goal.returns
returns c =
    let ss = c.args.sets.now in
    let v = c.args.version in
    let k = c.partition_point.result in
    let parts = IsPartitionPoint-from_clause (λ s. leb s.0 v) ss _ c.partition_point.ensures.partitioned (IsPartitionedBy-leb (λ s. s.0) ss v (versions_rise ss c.requires)) (λ a r f called. search rules) in
    record {
      bound = c.partition_point.ensures.bound;
      low = λ d p. leb-true (get_or ss (k - 1) d).0 v (parts.0 (k - 1) d (omega arith) (omega (arith, c.partition_point.ensures.bound)));
      high = λ d p. leb-false (get_or ss k d).0 v (parts.1 k d (omega arith) p);
    }
