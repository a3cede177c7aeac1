-- The first user of a key.
use Rattle.std.proofs.Common.{◌≡◌, map, ap, sym, ◌∙◌, Some, subst, refl, false}
use Rattle.std.specs.Arc.{arc_value}
use Rattle.versioned_graph.specs.Users.{set_of, users_of}
use Rattle.versioned_graph.proofs.UsersLemmas.{set-has, set-other, now_in}
use Rattle.versioned_graph.proofs.users.Users.begin.Goals as goal
use Rattle.dice_key.proofs.KeySets.{noted}
use Rattle.lists.specs.Lists.{Has}

pub returns-clause-ok : goal.returns-clause-ok
returns-clause-ok g c =
    let eq = g.U.Key.PartialEq.eq in
    let f = c.insert.new.self in
    subst (λ n. Has (users_of eq (map set_of c.insert-2.new.self.entries) n) (arc_value c.args.user)) c.in_ok-key.ensures
    (set-has eq c.laws_of.ensures.keys (arc_value c.in_ok-key.key) c.in_ok-key.key c.self.inside.sets.entries c.insert-2.new.self.entries (Some f) c.in_ok-insert-2.ensures.updates.0 (arc_value c.args.user)
    (now_in eq c.laws_of.ensures.keys c.new-set.result f (arc_value c.args.user) (noted eq c.args.user c.args.user c.new-set.result f refl c.in_ok-insert.ensures.updates)))

pub returns-clause-stay : goal.returns-clause-stay
returns-clause-stay g c = λ j q n h.
    let eq = g.U.Key.PartialEq.eq in
    let other : eq (arc_value c.in_ok-key.key) j ≡ false = ap (λ k. eq k j) c.in_ok-key.ensures ∙ n in
    set-other eq (arc_value c.in_ok-key.key) c.in_ok-key.key c.self.inside.sets.entries c.insert-2.new.self.entries (Some c.insert.new.self) c.in_ok-insert-2.ensures.updates.0 j q other
    (subst (λ ls. Has (users_of eq ls j) q) (sym c.self.view_is) h)
