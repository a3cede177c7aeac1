-- The last range is joined with the next one, or the next one is put after it.
use Rattle.std.proofs.Common.{◌≡◌, ◌≤◌, ◌-◌, ◌++◌, ◌∷◌, [], true, false, length, refl, sym, ◌∙◌, subst, arith, get_or}
use Rattle.std.proofs.lemmas.Bool.{or_left}
use Rattle.std.proofs.lemmas.List.{nil_from_length}
use Rattle.version_ranges.specs.Members.{is_before}
use Rattle.version_ranges.specs.Order.{ends_below, IsSeparate}
use Rattle.version_ranges.proofs.Appends.{push_separate, push_members, join_separate, join_members}
use Rattle.version_ranges.proofs.merge.append.Goals as goal
use Rattle.version_ranges.proofs.merge.append.Goals.{then-len-gt0+else-not-is_end_below, else-len-gt0}

pub returns-then-not-is_end_below-clause-separate :
    goal.returns-then-not-is_end_below-clause-separate
returns-then-not-is_end_below-clause-separate c =
    let l = c.index-last.result.now in
    let n = c.args.next in
    join_separate c.args.ranges.now.items (c.len-len.result - 1) l record { from = l.from; to = c.later.result } (omega arith) c.index-last.ensures c.requires.separate refl (λ h. c.later.ensures l.from ∙ or_left (is_before l.from l.to) (is_before l.from n.to) h)

pub returns-then-not-is_end_below-clause-members :
    goal.returns-then-not-is_end_below-clause-members
returns-then-not-is_end_below-clause-members c =
    let l = c.index-last.result.now in
    let n = c.args.next in
    let rs = c.args.ranges.now.items in
    let e : length rs ≡ c.len-len.result = omega arith in
    let last : (get_or rs (c.len-len.result - 1) l).from ≤ n.from = subst (λ k. (get_or rs (k - 1) l).from ≤ n.from) e (c.requires.in_order l (omega arith)) in
    let first : l.from ≤ n.from = subst (λ r. r.from ≤ n.from) (sym c.index-last.ensures) last in
    let touch : ends_below l.to n.from ≡ false = cc in
    join_members c.args.ranges.now.items (c.len-len.result - 1) l n record { from = l.from; to = c.later.result } (omega arith) c.index-last.ensures first touch refl c.later.ensures

pub returns-clause-separate : goal.returns-clause-separate
returns-clause-separate c =
    let rs = c.args.ranges.now.items in
    let n = c.args.next in
    rw c.in_ok-push.ensures.ok
    (elim c.if-len-gt0.branch as (λ _. IsSeparate (rs ++ n ∷ [])) [
      | then-len-gt0+else-not-is_end_below w ↦
          (let l = w.index-last.result.now in
          push_separate rs (c.len-len.result - 1) l n (omega arith) w.index-last.ensures c.requires.separate (let b : ends_below l.to n.from ≡ true = cc in b) c.requires.has_version)
      | else-len-gt0 w ↦ rw (nil_from_length rs (omega arith)) (c.requires.has_version, tt, tt)
    ])

pub returns-clause-members : goal.returns-clause-members
returns-clause-members c = rw c.in_ok-push.ensures.ok (push_members c.args.ranges.now.items c.args.next)
