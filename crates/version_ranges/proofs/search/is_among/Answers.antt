-- The last range that begins by the version decides.
use Rattle.std.proofs.Common.{◌-◌, ◌∙◌, leb, None, get_or, arith, rules}
use Rattle.std.proofs.lemmas.Bool.{leb-true, leb-false}
use Rattle.std.proofs.lemmas.List.Sorted.{IsPartitionPoint-from_clause, IsPartitionedBy-leb}
use Rattle.version_ranges.specs.declared.half_open.Range.{Range}
use Rattle.version_ranges.proofs.Searches.{found, found_none, starts_rise}
use Rattle.version_ranges.proofs.search.is_among.Goals as goal

pub returns-then-begun-eq0 : goal.returns-then-begun-eq0
returns-then-begun-eq0 c =
    let rs = c.args.ranges.now in
    let w = c.args.version in
    let d : Range = record { from = 0; to = None } in
    let parts = IsPartitionPoint-from_clause (λ (r : Range). leb r.from w) rs _ c.partition_point-begun.ensures.partitioned (IsPartitionedBy-leb (λ (r : Range). r.from) rs w (starts_rise rs c.requires)) (λ a r f called. search rules) in
    found_none rs c.requires w d (λ h. omega (arith, leb-false (get_or rs 0 d).from w (parts.1 0 d (omega arith) h)))

pub returns : goal.returns
returns c =
    let rs = c.args.ranges.now in
    let w = c.args.version in
    let k = c.partition_point-begun.result in
    let d : Range = record { from = 0; to = None } in
    let parts = IsPartitionPoint-from_clause (λ (r : Range). leb r.from w) rs _ c.partition_point-begun.ensures.partitioned (IsPartitionedBy-leb (λ (r : Range). r.from) rs w (starts_rise rs c.requires)) (λ a r f called. search rules) in
    let before = leb-true (get_or rs (k - 1) d).from w (parts.0 (k - 1) d (omega arith) (omega arith)) in
    c.is_before_end.ensures ∙ found rs c.requires k w d (omega arith) c.partition_point-begun.ensures.bound before (λ h. omega (arith, leb-false (get_or rs k d).from w (parts.1 k d (omega arith) h)))
