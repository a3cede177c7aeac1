use Rattle.std.proofs.Common.{◌≡◌, ◌∙◌, ◌++◌, ◌∷◌, [], subst, nat_eq, None, false, rules}
use Rattle.std.specs.Map.{lookup}
use Rattle.small_map.proofs.Ends.{value_of_last, updates_of_last, value_before_last, updates_before_last}
use Rattle.small_map.proofs.few.Few.+remove.Goals as goal

pub returns-then-last-number-clause-value : goal.returns-then-last-number-clause-value
returns-then-last-number-clause-value g t c =
    let same : c.in-Some.last ≡ c.args.number = search rules in
    value_of_last c.args.number c.pop.new.self c.args.self.now c.in-Some.value
    (subst (λ n. c.args.self.now ≡ c.pop.new.self ++ (n, c.in-Some.value) ∷ []) same c.in-Some.ensures.entries)
    (subst (λ n. lookup (nat_eq n) c.pop.new.self ≡ None) same c.in-Some.ensures.absent)

pub returns-then-last-number-clause-updates : goal.returns-then-last-number-clause-updates
returns-then-last-number-clause-updates g t c =
    let same : c.in-Some.last ≡ c.args.number = search rules in
    updates_of_last c.args.number c.pop.new.self c.args.self.now c.in-Some.value
    (subst (λ n. c.args.self.now ≡ c.pop.new.self ++ (n, c.in-Some.value) ∷ []) same c.in-Some.ensures.entries)
    (subst (λ n. lookup (nat_eq n) c.pop.new.self ≡ None) same c.in-Some.ensures.absent)

pub returns-clause-value : goal.returns-clause-value
returns-clause-value g t c =
    let other : nat_eq c.args.number c.in-Some.last ≡ false = search rules in
    c.remove-found.ensures.value ∙ value_before_last c.args.number c.in-Some.last c.pop.new.self c.args.self.now c.in-Some.value c.in-Some.ensures.entries other

pub returns-clause-updates : goal.returns-clause-updates
returns-clause-updates g t c =
    let other : nat_eq c.args.number c.in-Some.last ≡ false = search rules in
    updates_before_last c.args.number c.in-Some.last c.pop.new.self c.remove-found.new.self c.args.self.now c.push.new.self c.in-Some.value
    c.in-Some.ensures.entries c.push.ensures.entries other c.remove-found.ensures.updates
