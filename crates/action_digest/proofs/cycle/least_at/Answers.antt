use Rattle.std.proofs.Common.{◌<◌, ◌+◌, ◌∙◌, ℕ, [], length, take, get_or, sym, ap, subst, arith}
use Rattle.std.specs.Ordering.{is_lt}
use Rattle.std.specs.List.{AllByRecursion}
use Rattle.action_digest.specs.Cycles.{IsAtMost}
use Rattle.action_digest.proofs.Turning.{less_next, other_next}
use Rattle.action_digest.proofs.cycle.least_at.Goals as goal
use Rattle.action_digest.proofs.cycle.least_at.Goals.{then-is_lt, else-is_lt}

pub loop-i-preserved : goal.loop-i-preserved
loop-i-preserved c =
    let ls = c.args.labels.now in
    let i = c.loop-i.i in
    let n = c.loop-i.least in
    let in_i : i < length ls = omega arith in
    let in_n : n < length ls = omega arith in
    let e = sym (c.is_lt.ensures ∙ ap is_lt c.cmp.ensures) in
    elim c.if-is_lt.branch [
      | then-is_lt w ↦ record {
        within = omega arith;
        below = λ h. omega arith;
        least = subst (λ (k : ℕ). AllByRecursion (IsAtMost (get_or ls k [])) (take (i + 1) ls)) (sym w.least-is)
            (less_next ls i n c.index-labels-i.result c.index-labels-least.result in_i in_n c.index-labels-i.is c.index-labels-least.is (e ∙ w.if-is_lt.true) c.loop-i.invariant.least);
      }
      | else-is_lt w ↦ record {
        within = omega arith;
        below = λ h. omega arith;
        least = subst (λ (k : ℕ). AllByRecursion (IsAtMost (get_or ls k [])) (take (i + 1) ls)) (sym w.least-is)
            (other_next ls i n c.index-labels-i.result c.index-labels-least.result in_i in_n c.index-labels-i.is c.index-labels-least.is (e ∙ w.if-is_lt.false) c.loop-i.invariant.least);
      }
    ]
