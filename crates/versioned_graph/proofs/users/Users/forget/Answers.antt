use Rattle.std.proofs.Common.{◌≡◌, [], map, cond, Some, None, IsSome, ap, sym, subst, refl, ◌∙◌}
use Rattle.std.specs.Arc.{arc_value}
use Rattle.std.specs.Map.{lookup}
use Rattle.std.specs.Option.{option_map, option_copied_mut}
use Rattle.versioned_graph.specs.Users.{set_of, or_none, users_of}
use Rattle.versioned_graph.proofs.UsersLemmas.{keys_in, set-named, set-put, none_forgot}
use Rattle.versioned_graph.proofs.users.Users.forget.Goals.{in-Some, in_default}
use Rattle.versioned_graph.proofs.users.Users.forget.Goals as goal

pub returns : goal.returns
returns g c = λ j.
    let eq = g.U.Key.PartialEq.eq in
    let k = arc_value c.args.key.now in
    let us = c.self.inside.sets.entries in
    elim c.match-get_mut.branch as (λ _. users_of eq (map set_of c.match-get_mut.self-inside.sets.entries) j ≡ cond (eq k j) [] (users_of eq c.args.self.now j)) [
      | in-Some w ↦
          let f = w.clear.new.self in
          let known : lookup (λ y. eq k (arc_value y)) us ≡ Some w.in-Some.set.now = sym c.get_mut.ensures.value ∙ ap option_copied_mut w.in-Some.is in
          let some : IsSome (lookup (λ y. eq k (arc_value y)) us) = subst IsSome (sym known) refl in
          ap (λ i. users_of eq (map set_of i.sets.entries) j) w.self-inside-is
          ∙ (set-put eq k c.args.key.now us (c.get_mut.follows.lender f).entries (Some f) (((c.get_mut.follows.holds f).3 some).0) j
          ∙ (ap (λ l. cond (eq k j) (map arc_value l) (users_of eq (map set_of us) j)) w.clear.ensures ∙ ap (λ vs. cond (eq k j) [] (users_of eq vs j)) c.self.view_is))
      | in_default w ↦
          let same = c.get_mut.follows.holds-at-none in
          let none : lookup (λ y. eq k (arc_value y)) us ≡ None = sym c.get_mut.ensures.value ∙ ap option_copied_mut w.in_default.is in
          ap (λ i. users_of eq (map set_of i.sets.entries) j) w.self-inside-is
          ∙ (ap (λ m. users_of eq (map set_of m.entries) j) same
          ∙ (none_forgot eq c.laws_of.ensures.keys.same k (map set_of us) (set-named eq k us ∙ ap (λ o. or_none (option_map keys_in o)) none) j ∙ ap (λ vs. cond (eq k j) [] (users_of eq vs j)) c.self.view_is))
    ]
