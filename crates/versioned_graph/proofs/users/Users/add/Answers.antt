-- A key is noted to one set.
use Rattle.std.proofs.Common.{◌≡◌, map, ap, sym, ◌∙◌, Some, None, subst, refl, IsSome, OnOk}
use Rattle.std.specs.Arc.{arc_value}
use Rattle.std.specs.Map.{lookup}
use Rattle.std.specs.Option.{option_map, option_copied_mut}
use Rattle.versioned_graph.specs.Users.{set_of, or_none, users_of}
use Rattle.versioned_graph.proofs.UsersLemmas.{keys_in, set-named, set-more, set-has, still_in, now_in, all_stay}
use Rattle.versioned_graph.proofs.users.Users.add.Goals as goal
use Rattle.dice_key.proofs.KeySets.{noted}
use Rattle.lists.specs.Lists.{Has}

pub returns-in_err-insert-clause-stay : goal.returns-in_err-insert-clause-stay
returns-in_err-insert-clause-stay g c = λ j q h.
    let eq = g.U.Key.PartialEq.eq in
    let k = arc_value c.args.key.now in
    let us = c.self.inside.sets.entries in
    let l = c.in-Some.set.now in
    let f = c.insert.new.self in
    let known : lookup (λ y. eq k (arc_value y)) us ≡ Some l = sym c.get_mut.ensures.value ∙ ap option_copied_mut c.in-Some.is in
    let some : IsSome (lookup (λ y. eq k (arc_value y)) us) = subst IsSome (sym known) refl in
    set-more eq c.laws_of.ensures.keys.same k c.args.key.now us (c.get_mut.follows.lender f).entries (Some l) (Some f) known (((c.get_mut.follows.holds f).3 some).0) (λ x i. subst (λ xs. Has (map arc_value xs) x) (sym c.in_err-insert.ensures.err) i) j q
    (subst (λ ls. Has (users_of eq ls j) q) (sym c.self.view_is) h)

pub returns-in-Some-clause-ok : goal.returns-in-Some-clause-ok
returns-in-Some-clause-ok g c =
    let eq = g.U.Key.PartialEq.eq in
    let k = arc_value c.args.key.now in
    let us = c.self.inside.sets.entries in
    let l = c.in-Some.set.now in
    let f = c.insert.new.self in
    let known : lookup (λ y. eq k (arc_value y)) us ≡ Some l = sym c.get_mut.ensures.value ∙ ap option_copied_mut c.in-Some.is in
    let some : IsSome (lookup (λ y. eq k (arc_value y)) us) = subst IsSome (sym known) refl in
    set-has eq c.laws_of.ensures.keys k c.args.key.now us (c.get_mut.follows.lender f).entries (Some f) (((c.get_mut.follows.holds f).3 some).0) (arc_value c.args.user.now)
    (now_in eq c.laws_of.ensures.keys l f (arc_value c.args.user.now) (noted eq c.args.user.now c.in_ok-user.user l f c.in_ok-user.ensures c.in_ok-insert.ensures.updates))

pub returns-in-Some-clause-stay : goal.returns-in-Some-clause-stay
returns-in-Some-clause-stay g c = λ j q h.
    let eq = g.U.Key.PartialEq.eq in
    let k = arc_value c.args.key.now in
    let us = c.self.inside.sets.entries in
    let l = c.in-Some.set.now in
    let f = c.insert.new.self in
    let known : lookup (λ y. eq k (arc_value y)) us ≡ Some l = sym c.get_mut.ensures.value ∙ ap option_copied_mut c.in-Some.is in
    let some : IsSome (lookup (λ y. eq k (arc_value y)) us) = subst IsSome (sym known) refl in
    set-more eq c.laws_of.ensures.keys.same k c.args.key.now us (c.get_mut.follows.lender f).entries (Some l) (Some f) known (((c.get_mut.follows.holds f).3 some).0)
    (λ x i. still_in eq c.laws_of.ensures.keys l f (arc_value c.args.user.now) (noted eq c.args.user.now c.in_ok-user.user l f c.in_ok-user.ensures c.in_ok-insert.ensures.updates) x i) j q
    (subst (λ ls. Has (users_of eq ls j) q) (sym c.self.view_is) h)

pub returns-clause-ok : goal.returns-clause-ok
returns-clause-ok g c = subst (λ x. OnOk c.begin.result (Has (users_of g.U.Key.PartialEq.eq c.begin.new.self (arc_value c.args.key.now)) x)) c.in_ok-user.ensures c.begin.ensures.ok

pub returns-clause-stay : goal.returns-clause-stay
returns-clause-stay g c = λ j q h.
    let eq = g.U.Key.PartialEq.eq in
    let k = arc_value c.args.key.now in
    let us = c.get_mut.follows.lender-at-none.entries in
    let same = c.get_mut.follows.holds-at-none in
    let none : lookup (λ y. eq k (arc_value y)) us ≡ None = ap (λ m. lookup (λ y. eq k (arc_value y)) m.entries) same ∙ (sym c.get_mut.ensures.value ∙ ap option_copied_mut c.in_default.is) in
    all_stay eq c.laws_of.ensures.keys.same k (map set_of us) c.begin.new.self (set-named eq k us ∙ ap (λ o. or_none (option_map keys_in o)) none) c.begin.ensures.stay j q
    (subst (λ m. Has (users_of eq (map set_of m.entries) j) q) (sym same) (subst (λ ls. Has (users_of eq ls j) q) (sym c.self.view_is) h))
