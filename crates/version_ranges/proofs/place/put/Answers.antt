-- The range is put between its neighbours.
use Rattle.std.proofs.Common.{◌≡◌, ◌≤◌, ◌<◌, ◌-◌, ◌||◌, true, get_or, length, ◌∙◌, sym, subst, ap}
use Rattle.version_ranges.specs.declared.half_open.Range.{Range}
use Rattle.version_ranges.specs.Members.{contains, is_in}
use Rattle.version_ranges.specs.Order.{ends_below, IsSeparate}
use Rattle.version_ranges.proofs.Places.{put_separate, put_members}
use Rattle.version_ranges.proofs.place.put.Goals as goal

pub returns-then-is_clear-clause-separate : goal.returns-then-is_clear-clause-separate
returns-then-is_clear-clause-separate c =
    let rs = c.join_round.new.ranges.items in
    let k = c.partition_point-place.result in
    let m = c.args.range in
    let below = subst (λ xs. (d : Range) → 0 < k → ends_below (get_or xs (k - 1) d).to m.from ≡ true) c.deref-2.ensures.value (c.is_clear.ensures.below c.if-is_clear.true) in
    let above = subst (λ xs. (d : Range) → k < length xs → ends_below m.to (get_or xs k d).from ≡ true) c.deref-2.ensures.value (c.is_clear.ensures.above c.if-is_clear.true) in
    let same : rs ≡ c.args.ranges.now.items = c.join_round.ensures.left c.if-join_round.false in
    let within : k ≤ length rs = subst (λ xs. k ≤ length xs) (c.deref.ensures.value ∙ sym same) c.partition_point-place.ensures.bound in
    subst IsSeparate (sym c.in_ok-insert.ensures.items) (put_separate rs c.join_round.ensures.separate k k m m within c.requires.has_version (below m) (above m))

pub returns-then-is_clear-clause-members : goal.returns-then-is_clear-clause-members
returns-then-is_clear-clause-members c = λ w.
    let k = c.partition_point-place.result in
    ap (λ xs. contains xs w) c.in_ok-insert.ensures.items ∙ (put_members c.join_round.new.ranges.items k c.args.range w ∙ ap (λ xs. contains xs w || is_in c.args.range w) (c.join_round.ensures.left c.if-join_round.false))
