-- One key more is linked.
use Rattle.std.proofs.Common.{◌≤◌, ◌||◌, ◌+◌, drop, length, sym, ap, ◌∙◌, refl, arith}
use Rattle.std.specs.Arc.{arc_value}
use Rattle.std.specs.List.{list_any}
use Rattle.versioned_graph.proofs.LinkLemmas.{linked_none, linked_more, keys_left, batch_added}
use Rattle.versioned_graph.proofs.Bools.{or_none}
use Rattle.std.proofs.lemmas.List.{at_drop_all}
use Rattle.dep_recorder.specs.Recordings.{keys_in, answered_in}
use Rattle.versioned_graph.specs.Edges.{is_asked}
use Rattle.versioned_graph.proofs.Sets.{moved}
use Rattle.versioned_graph.proofs.finish.link.Goals as goal
use Rattle.dice_key.proofs.KeySets.{noted}

pub loop-dep-preserved : goal.loop-dep-preserved
loop-dep-preserved g c =
    let eq = g.U.Key.PartialEq.eq in
    let law = c.laws_of.ensures.keys in
    let p = c.loop-dep-item.result in
    let d = arc_value p.0 in
    let marks = noted eq p.0 c.in_ok-try_clone.field-0 c.loop-dep.deps c.insert.new.self c.in_ok-try_clone.ensures c.in_ok-insert.ensures.updates in (
      linked_more eq (arc_value c.args.key.now) law (λ q. list_any (λ a. eq q (arc_value a)) c.loop-dep.deps) (λ q. list_any (λ a. eq q (arc_value a)) c.insert.new.self) c.args.users.now c.loop-dep.users c.add.new.self d c.loop-dep.invariant.0 marks c.in_ok-add.ensures.ok c.in_ok-add.ensures.stay,
      λ q. moved eq law d q _ _ _ (marks q)
          ∙ (ap (λ ks. list_any (eq q) ks || list_any (λ a. eq q (arc_value a)) c.loop-dep.deps) (sym (keys_left c.batch-dep-items.result.now c.loop-dep.dep-index p c.loop-dep-test.true c.loop-dep-item.is)) ∙ c.loop-dep.invariant.1 q),
    )

pub loop-i-init : goal.loop-i-init
loop-i-init g c =
    let eq = g.U.Key.PartialEq.eq in (
      linked_none eq (arc_value c.args.key.now) (λ q. list_any (λ a. eq q (arc_value a)) c.new-deps.result) c.args.users.now (λ q. ap (list_any (λ a. eq q (arc_value a))) c.new-deps.ensures),
      λ q. or_none (is_asked eq c.args.trace.now q) (list_any (λ a. eq q (arc_value a)) c.new-deps.result) (ap (list_any (λ a. eq q (arc_value a))) c.new-deps.ensures),
    )

pub loop-i-preserved : goal.loop-i-preserved
loop-i-preserved g c =
    let eq = g.U.Key.PartialEq.eq in
    let ps = c.batch-dep-items.result.now in (
      c.loop-dep.invariant.0,
      λ q. batch_added eq q (drop c.loop-i.i c.args.trace.now) (drop (c.loop-i.i + 1) c.args.trace.now) (answered_in ps) (list_any (λ a. eq q (arc_value a)) c.loop-i.deps) (list_any (λ a. eq q (arc_value a)) c.loop-dep.deps) (is_asked eq c.args.trace.now q) c.batch-dep-items.ensures.batch
          (sym (ap (λ b. b || list_any (λ a. eq q (arc_value a)) c.loop-dep.deps) (at_drop_all (λ rs. list_any (eq q) (keys_in rs)) ps c.loop-dep.dep-index c.loop-dep-test.false)) ∙ c.loop-dep.invariant.1 q) (c.loop-i.invariant.1 q),
    )

pub loop-dep-init : goal.loop-dep-init
loop-dep-init g c = (c.loop-i.invariant.0, λ q. refl)

pub returns-clause-keys : goal.returns-clause-keys
returns-clause-keys g c = λ q.
    let eq = g.U.Key.PartialEq.eq in
    let all : length c.args.trace.now ≤ c.loop-i.i = omega arith in
    sym (ap (λ b. b || list_any (λ a. eq q (arc_value a)) c.loop-i.deps) (at_drop_all (λ A. is_asked eq A q) c.args.trace.now c.loop-i.i all)) ∙ c.loop-i.invariant.1 q

pub returns-clause-there : goal.returns-clause-there
returns-clause-there g c = c.loop-i.invariant.0.there

pub returns-clause-stay : goal.returns-clause-stay
returns-clause-stay g c = c.loop-i.invariant.0.stay

pub returns-in_err-try_clone-clause-stay : goal.returns-in_err-try_clone-clause-stay
returns-in_err-try_clone-clause-stay g c = c.loop-dep.invariant.0.stay

pub returns-in_err-insert-clause-stay : goal.returns-in_err-insert-clause-stay
returns-in_err-insert-clause-stay g c = c.loop-dep.invariant.0.stay

pub returns-in_err-add-clause-stay : goal.returns-in_err-add-clause-stay
returns-in_err-add-clause-stay g c = λ j q h. c.add.ensures.stay j q (c.loop-dep.invariant.0.stay j q h)
