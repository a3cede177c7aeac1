-- The range at the place is joined with the new one.
use Rattle.std.proofs.Common.{◌≡◌, ◌<◌, ◌-◌, ◌+◌, true, get_or, length, ◌∙◌, sym, subst, rules}
use Rattle.version_ranges.specs.declared.half_open.Range.{Range}
use Rattle.version_ranges.specs.Order.{ends_below}
use Rattle.version_ranges.proofs.Places.{joined_separate, joined_members}
use Rattle.version_ranges.proofs.place.join_at.Goals as goal

pub returns-clause-separate : goal.returns-clause-separate
returns-clause-separate c =
    let k = c.args.place in
    let m : Range = record { from = c.min.result; to = c.later.result } in
    let clear : c.is_clear.result ≡ true = search rules in
    let below = subst (λ xs. (d : Range) → 0 < k → ends_below (get_or xs (k - 1) d).to m.from ≡ true) c.deref.ensures.value (c.is_clear.ensures.below clear) in
    let above = subst (λ xs. (d : Range) → k + 1 < length xs → ends_below m.to (get_or xs (k + 1) d).from ≡ true) c.deref.ensures.value (c.is_clear.ensures.above clear) in
    joined_separate c.args.ranges.now.items c.requires.separate k c.index-own.result.now c.args.range m c.requires.place c.index-own.ensures c.requires.has_version c.min.ensures c.later.ensures below above

pub returns-clause-joined : goal.returns-clause-joined
returns-clause-joined c = λ _.
    joined_members c.args.ranges.now.items c.requires.separate c.args.place c.index-own.result.now c.args.range record { from = c.min.result; to = c.later.result } c.requires.place c.index-own.ensures c.requires.has_version c.min.ensures c.later.ensures
    (sym c.is_apart.ensures ∙ c.if-is_apart.false)
