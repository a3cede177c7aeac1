-- The last range that begins by the version has it, or none does.
use Rattle.std.proofs.Common.{◌-◌, ◌∙◌, ◌≡◌, true, sym, leb, None, get_or, arith, rules}
use Rattle.std.proofs.lemmas.Bool.{leb-true, leb-false}
use Rattle.std.proofs.lemmas.List.Sorted.{IsPartitionPoint-from_clause, IsPartitionedBy-leb}
use Rattle.version_ranges.specs.declared.half_open.Range.{Range}
use Rattle.version_ranges.specs.Members.{is_before}
use Rattle.version_ranges.proofs.Searches.{found, found_none, has_at, starts_rise}
use Rattle.version_ranges.proofs.Rounds.{round_at}
use Rattle.version_ranges.proofs.search.range_at.Goals as goal

pub returns-then-begun-eq0 : goal.returns-then-begun-eq0
returns-then-begun-eq0 c =
    let rs = c.args.ranges.now in
    let w = c.args.version in
    let d : Range = record { from = 0; to = None } in
    let parts = IsPartitionPoint-from_clause (λ (r : Range). leb r.from w) rs _ c.partition_point-begun.ensures.partitioned (IsPartitionedBy-leb (λ (r : Range). r.from) rs w (starts_rise rs c.requires)) (λ a r f called. search rules) in
    sym (found_none rs c.requires w d (λ h. omega (arith, leb-false (get_or rs 0 d).from w (parts.1 0 d (omega arith) h))))

pub returns-then-not-is_before_end : goal.returns-then-not-is_before_end
returns-then-not-is_before_end c =
    let rs = c.args.ranges.now in
    let w = c.args.version in
    let k = c.partition_point-begun.result in
    let d : Range = record { from = 0; to = None } in
    let parts = IsPartitionPoint-from_clause (λ (r : Range). leb r.from w) rs _ c.partition_point-begun.ensures.partitioned (IsPartitionedBy-leb (λ (r : Range). r.from) rs w (starts_rise rs c.requires)) (λ a r f called. search rules) in
    let low = leb-true (get_or rs (k - 1) d).from w (parts.0 (k - 1) d (omega arith) (omega arith)) in
    sym (found rs c.requires k w d (omega arith) c.partition_point-begun.ensures.bound low (λ h. omega (arith, leb-false (get_or rs k d).from w (parts.1 k d (omega arith) h))))
    ∙ (sym c.is_before_end.ensures ∙ c.if-not-is_before_end.true)

pub returns : goal.returns
returns c =
    let rs = c.args.ranges.now in
    let w = c.args.version in
    let k = c.partition_point-begun.result in
    let d : Range = record { from = 0; to = None } in
    let parts = IsPartitionPoint-from_clause (λ (r : Range). leb r.from w) rs _ c.partition_point-begun.ensures.partitioned (IsPartitionedBy-leb (λ (r : Range). r.from) rs w (starts_rise rs c.requires)) (λ a r f called. search rules) in
    let low = leb-true (get_or rs (k - 1) d).from w (parts.0 (k - 1) d (omega arith) (omega arith)) in
    let has : is_before w (get_or rs (k - 1) d).to ≡ true = sym c.is_before_end.ensures ∙ c.if-not-is_before_end.false in
    (has_at rs c.requires (k - 1) d (omega arith), round_at rs c.requires k d (omega arith) c.partition_point-begun.ensures.bound w low has)
