-- The starts rise, so those below the end come first.
use Rattle.std.proofs.Common.{ltb, get_or, ◌-◌, arith, rules}
use Rattle.std.proofs.lemmas.Bool.{ltb-true, ltb-false}
use Rattle.std.proofs.lemmas.List.Sorted.{IsPartitionPoint-from_clause, IsPartitionedBy-ltb}
use Rattle.version_ranges.specs.declared.half_open.Range.{Range}
use Rattle.version_ranges.proofs.Searches.{starts_rise}
use Rattle.version_ranges.proofs.search.begun_below.Goals as goal

pub returns : goal.returns
returns c =
    let rs = c.args.ranges.now in
    let end = c.args.end in
    let split = IsPartitionPoint-from_clause (λ (r : Range). ltb r.from end) rs _ c.partition_point.ensures.partitioned (IsPartitionedBy-ltb (λ (r : Range). r.from) rs end (starts_rise rs c.requires)) (λ a r f called. search rules) in
    record {
      bound = c.partition_point.ensures.bound;
      below = λ d h. ltb-true (get_or rs (c.partition_point.result - 1) d).from end (split.0 (c.partition_point.result - 1) d (omega arith) (omega arith));
      others = λ d h. ltb-false (get_or rs c.partition_point.result d).from end (split.1 c.partition_point.result d (omega arith) h);
    }
