use Rattle.std.proofs.Common.{◌≡◌, ◌<◌, ◌∙◌, List, ℕ, [], length, get_or, ap, subst}
use Rattle.std.specs.List.{AllByRecursion}
use Rattle.action_digest.specs.Cycles.{labels_of, IsAtMost}
use Rattle.action_digest.proofs.Turning.{from_least_of, leads_least}
use Rattle.action_digest.proofs.cycle.labels_of_cycle.Goals as goal

pub returns-clause-cycle : goal.returns-clause-cycle
returns-clause-cycle c C v h =
    let i = c.least_at-least.result in
    let all = c.in_ok-labels.labels.items in
    let d : c.deref.result.now ≡ all = c.deref.ensures.value in
    let b : 0 < length all → i < length all = subst (λ (xs : List (List ℕ)). 0 < length xs → i < length xs) d c.least_at-least.ensures.below in
    let a : AllByRecursion (IsAtMost (get_or all i [])) all = subst (λ (xs : List (List ℕ)). AllByRecursion (IsAtMost (get_or xs i [])) xs) d c.least_at-least.ensures.least in
    from_least_of C v c.args.path.now c.rotate_left.new.self.items all i (c.in_ok-labels.ensures ∙ ap labels_of c.keys.ensures.keys) c.rotate_left.ensures.items b a h

pub returns-clause-reached : goal.returns-clause-reached
returns-clause-reached c C v k h r =
    leads_least C v k c.args.path.now c.rotate_left.new.self.items c.in_ok-labels.labels.items c.least_at-least.result
    (c.in_ok-labels.ensures ∙ ap labels_of c.keys.ensures.keys) c.rotate_left.ensures.items h r
