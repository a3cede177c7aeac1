use Rattle.std.proofs.Common.{◌≡◌, ◌∙◌, ◌+◌, ◌≤◌, [], length, sym, ap, subst, rules, arith}
use Rattle.indexmap.specs.IndexMap.{spare}
use Rattle.small_map.specs.Held.{held_entries}
use Rattle.small_map.proofs.many.hash.Goals as goal

pub fill-requires : goal.fill-requires
fill-requires g c =
    let made = c.deref_mut.ensures.value ∙ c.in_ok-map.ensures.ok in
    let none : c.in_ok-with_capacity.field-0.entries ≡ [] = search rules in
    let most : length c.in-Few.few.value ≤ 2 = subst (λ h. length (held_entries h) ≤ 2) c.in-Few.is c.requires.most in
    let few : length c.deref_mut-in-Few.result.now ≤ 2 = subst (λ es. length es ≤ 2) (sym c.deref_mut-in-Few.ensures.value) most in
    let wanted : c.args.additional + 2 ≤ spare c.in_ok-with_capacity.field-0 = search rules in
    let room : c.args.additional + 2 ≤ spare c.deref_mut.result.now = subst (λ m. c.args.additional + 2 ≤ spare m) (sym made) wanted in
    (search rules, (ap (λ m. m.entries) made ∙ none, omega (arith, few, room)))

pub returns-clause-ok : goal.returns-clause-ok
returns-clause-ok g c =
    let made = c.deref_mut.ensures.value ∙ c.in_ok-map.ensures.ok in
    let most : length c.in-Few.few.value ≤ 2 = subst (λ h. length (held_entries h) ≤ 2) c.in-Few.is c.requires.most in
    let few : length c.deref_mut-in-Few.result.now ≤ 2 = subst (λ es. length es ≤ 2) (sym c.deref_mut-in-Few.ensures.value) most in
    let wanted : c.args.additional + 2 ≤ spare c.in_ok-with_capacity.field-0 = search rules in
    let room : c.args.additional + 2 ≤ spare c.deref_mut.result.now = subst (λ m. c.args.additional + 2 ≤ spare m) (sym made) wanted in (
      c.fill.ensures.entries ∙ (c.deref_mut-in-Few.ensures.value ∙ ap held_entries (sym c.in-Few.is)),
      omega (arith, few, room, c.fill.ensures.room),
    )
