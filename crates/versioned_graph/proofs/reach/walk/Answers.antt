-- One key less to do.
use Rattle.std.proofs.Common.{◌≡◌, [], ◌∷◌, ap, ◌∙◌, subst, map, length, length-append, arith, false, true, refl}
use Rattle.std.proofs.lemmas.List.{length-map, map-append, nil_from_length}
use Rattle.std.specs.Arc.{arc_value}
use Rattle.std.specs.List.{list_any}
use Rattle.versioned_graph.specs.Users.{recorded_of}
use Rattle.versioned_graph.proofs.Walk.{reach_begins, reach_more, reach_same, walk_ends, unseen_less, recorded_length}
use Rattle.versioned_graph.proofs.reach.walk.Goals as goal
use Rattle.dice_key.proofs.KeySets.{noted}
use Rattle.lists.proofs.Options.{was_new, was_seen}

pub loop-key-init : goal.loop-key-init
loop-key-init g c =
    let eq = g.U.Key.PartialEq.eq in
    reach_begins eq c.args.store.now (map arc_value c.args.todo.now.items) (λ q. list_any (λ a. eq q (arc_value a)) c.args.seen.now) (map arc_value c.args.reached.now.items) (map arc_value c.args.todo.now.items)
    (ap (map arc_value) c.requires.none) refl (λ q. ap (list_any (λ a. eq q (arc_value a))) c.requires.unseen)

pub loop-key-smaller-in_ok-push : goal.loop-key-smaller-in_ok-push
loop-key-smaller-in_ok-push g c =
    let eq = g.U.Key.PartialEq.eq in
    let law = c.laws_of.ensures.keys in
    let k = arc_value c.in-Some.key in
    let us = c.args.users.now in
    let seen = λ (q : g.row.U-Key.Denot). list_any (λ a. eq q (arc_value a)) c.loop-key.seen in
    let later = λ (q : g.row.U-Key.Denot). list_any (λ a. eq q (arc_value a)) c.insert.new.self in
    let marks = noted eq c.in-Some.key c.in_ok-try_clone.field-0 c.loop-key.seen c.insert.new.self c.in_ok-try_clone.ensures c.in_ok-insert.ensures.updates in
    let new : seen k ≡ false = subst (λ x. seen x ≡ false) c.in_ok-try_clone.ensures (was_new (seen (arc_value c.in_ok-try_clone.field-0)) _ c.in_ok-insert.ensures.added c.if-branch.true) in
    let u = unseen_less eq law seen later k marks us new in
    let r = recorded_length eq c.args.store.now us k in
    let a = ap length c.in_ok-push_users.ensures ∙ length-append (map arc_value c.pop.new.self.items) (recorded_of eq c.args.store.now us k) in
    let b = ap length c.in-Some.ensures.items ∙ length-append c.pop.new.self.items (c.in-Some.key ∷ []) in
    let x = length-map c.push_users.new.todo.items arc_value in
    let y = length-map c.pop.new.self.items arc_value in
    omega arith

pub loop-key-preserved-in_ok-push : goal.loop-key-preserved-in_ok-push
loop-key-preserved-in_ok-push g c =
    let eq = g.U.Key.PartialEq.eq in
    let law = c.laws_of.ensures.keys in
    let k = arc_value c.in-Some.key in
    let es = c.args.store.now in
    let us = c.args.users.now in
    let marks = noted eq c.in-Some.key c.in_ok-try_clone.field-0 c.loop-key.seen c.insert.new.self c.in_ok-try_clone.ensures c.in_ok-insert.ensures.updates in
    reach_more eq law es (map arc_value c.args.todo.now.items) us c.requires.indexed (λ q. list_any (λ a. eq q (arc_value a)) c.loop-key.seen) (λ q. list_any (λ a. eq q (arc_value a)) c.insert.new.self) (map arc_value c.loop-key.reached.items) (map arc_value c.loop-key.todo.items) (map arc_value c.pop.new.self.items) k c.loop-key.invariant
    (ap (map arc_value) c.in-Some.ensures.items ∙ map-append arc_value c.pop.new.self.items (c.in-Some.key ∷ [])) marks
    (map arc_value c.push.new.self.items) (map arc_value c.push_users.new.todo.items) (ap (map arc_value) c.in_ok-push.ensures.items ∙ map-append arc_value c.loop-key.reached.items (c.in-Some.key ∷ [])) c.in_ok-push_users.ensures

pub loop-key-preserved : goal.loop-key-preserved
loop-key-preserved g c =
    let eq = g.U.Key.PartialEq.eq in
    let law = c.laws_of.ensures.keys in
    let k = arc_value c.in-Some.key in
    let seen = λ (q : g.row.U-Key.Denot). list_any (λ a. eq q (arc_value a)) c.loop-key.seen in
    let marks = noted eq c.in-Some.key c.in_ok-try_clone.field-0 c.loop-key.seen c.insert.new.self c.in_ok-try_clone.ensures c.in_ok-insert.ensures.updates in
    let old : seen k ≡ true = subst (λ x. seen x ≡ true) c.in_ok-try_clone.ensures (was_seen (seen (arc_value c.in_ok-try_clone.field-0)) _ c.in_ok-insert.ensures.added c.if-branch.false) in
    reach_same eq law c.args.store.now (map arc_value c.args.todo.now.items) (λ q. list_any (λ a. eq q (arc_value a)) c.loop-key.seen) (λ q. list_any (λ a. eq q (arc_value a)) c.insert.new.self) (map arc_value c.loop-key.reached.items) (map arc_value c.loop-key.todo.items) (map arc_value c.pop.new.self.items) k c.loop-key.invariant
    (ap (map arc_value) c.in-Some.ensures.items ∙ map-append arc_value c.pop.new.self.items (c.in-Some.key ∷ [])) marks old

pub returns-clause-all : goal.returns-clause-all
returns-clause-all g c = walk_ends g.U.Key.PartialEq.eq c.args.store.now (map arc_value c.args.todo.now.items) (map arc_value c.loop-key.reached.items) (map arc_value c.loop-key.todo.items) c.loop-key.invariant.walk
    (ap (map arc_value) (nil_from_length c.loop-key.todo.items (let a = c.in_default.ensures.cases.0 in omega arith)))

pub returns-clause-only : goal.returns-clause-only
returns-clause-only g c = c.loop-key.invariant.walk.reached_led
