use Rattle.std.proofs.Common.{◌≡◌, ◌∙◌, ◌⊎◌, inl, inr, ◌++◌, ◌∷◌, [], ◌+◌, sym, ap, subst, map, take}
use Rattle.std.specs.Arc.{arc_value}
use Rattle.std.specs.List.{list_any}
use Rattle.std.proofs.lemmas.List.{take_all}
use Rattle.dice_key.specs.declared.universe.Kind.TheVariants.{Injected}
use Rattle.dice_steps.specs.Orders.{AreInOrder, AreLastFirst}
use Rattle.dice_steps.specs.Plans.{key_in, AreParts}
use Rattle.dice_steps.proofs.OrderLemmas.{order_turned}
use Rattle.dice_steps.proofs.NotedLemmas.{AreSeen}
use Rattle.dice_steps.proofs.PartLemmas.{map_last, parts_none, parts_turned}
use Rattle.dice_steps.proofs.SurveyLemmas.{batch_at, comes_to_none, seen_same, seen_new, seen_has, unseen, skips, skips_on, adds, adds_on}
use Rattle.dice_steps.proofs.plan.look_over_all.Goals as goal
use Rattle.lists.specs.Lists.{Has}

pub returns-in-Cycle : goal.returns-in-Cycle
returns-in-Cycle g c = record {
  before = map arc_value (take c.loop-key.key-index c.args.keys.now);
  key = arc_value c.key-item.result;
  later = (batch_at c.args.keys.now c.loop-key.key-index c.key-item.result c.loop-key-test.true c.key-item.is).0;
  all = (batch_at c.args.keys.now c.loop-key.key-index c.key-item.result c.loop-key-test.true c.key-item.is).1;
  earlier = comes_to_none g.U.Key.PartialEq.eq c.laws_of.ensures.keys g.U.Universe.meaning c.args.version c.args.born c.args.tasks.now c.args.shared.now.graph (arc_value c.args.own.now) c.args.keys.now c.loop-key.key-index c.key-item.result c.loop-key-test.true c.key-item.is c.loop-key.parts.items c.loop-key.invariant.parts;
  found = rw c.in-Cycle.is at c.in_ok-path.ensures;
}

pub loop-key-init : goal.loop-key-init
loop-key-init g c =
    let eq = g.U.Key.PartialEq.eq in
    record {
      parts = subst (λ zs. AreParts eq g.U.Universe.meaning c.args.version c.args.born c.args.tasks.now c.args.shared.now.graph (arc_value c.args.own.now) [] zs) (sym c.new-parts.ensures.items) (parts_none eq g.U.Universe.meaning c.args.version c.args.born c.args.tasks.now c.args.shared.now.graph (arc_value c.args.own.now));
      order = subst (λ zs. AreInOrder [] (map key_in zs)) (sym c.new-parts.ensures.items) (λ x y h. absurd h);
      seen = λ q. ap (λ z. list_any (λ a. eq q (arc_value a)) z) c.new-seen.ensures ∙ sym (ap (λ zs. list_any (eq q) (map key_in zs)) c.new-parts.ensures.items);
    }

pub loop-key-preserved-then-not-branch : goal.loop-key-preserved-then-not-branch
loop-key-preserved-then-not-branch g c =
    let eq = g.U.Key.PartialEq.eq in
    let law = c.laws_of.ensures.keys in
    let x = c.key-item.result in
    let xs = c.loop-key.parts.items in
    let old = rw c.if-not-branch.true at c.in_ok-is_new.ensures.new in
    record {
      parts = skips eq law g.U.Universe.meaning c.args.version c.args.born c.args.tasks.now c.args.shared.now.graph (arc_value c.args.own.now) c.args.keys.now c.loop-key.key-index x c.loop-key-test.true c.key-item.is xs c.loop-key.invariant.parts
          (elim old as (λ _. (g.U.Universe.meaning.kind (arc_value x) ≡ Injected) ⊎ Has (map key_in xs) (arc_value x)) [ inl i ↦ inl i | inr e ↦ inr (seen_has eq law c.loop-key.seen c.is_new.new.seen (map key_in xs) (arc_value x) c.loop-key.invariant.seen e) ]);
      order = skips_on eq law g.U.Universe.meaning c.args.version c.args.born c.args.tasks.now c.args.shared.now.graph (arc_value c.args.own.now) c.args.keys.now c.loop-key.key-index x c.loop-key-test.true c.key-item.is xs c.loop-key.invariant.parts c.loop-key.invariant.order;
      seen = seen_same eq law c.loop-key.seen c.is_new.new.seen (map key_in xs) (arc_value x) c.loop-key.invariant.seen _ c.if-not-branch.true c.in_ok-is_new.ensures.seen;
    }

pub loop-key-preserved : goal.loop-key-preserved
loop-key-preserved g c =
    let eq = g.U.Key.PartialEq.eq in
    let law = c.laws_of.ensures.keys in
    let m = g.U.Universe.meaning in
    let x = c.key-item.result in
    let xs = c.loop-key.parts.items in
    let p = c.in-Part.part in
    let new = rw c.if-not-branch.false at c.in_ok-is_new.ensures.new in
    let met = rw c.in-Part.is at c.in_ok-path.ensures in
    let k = met.1 in
    record {
      parts = subst (λ zs. AreParts eq m c.args.version c.args.born c.args.tasks.now c.args.shared.now.graph (arc_value c.args.own.now) (map arc_value (take (c.loop-key.key-index + 1) c.args.keys.now)) zs) (sym c.in_ok-push-in-Part.ensures.items)
          (adds eq law m c.args.version c.args.born c.args.tasks.now c.args.shared.now.graph (arc_value c.args.own.now) c.args.keys.now c.loop-key.key-index x c.loop-key-test.true c.key-item.is xs c.loop-key.invariant.parts p k met.0 met.2
          (unseen eq law c.loop-key.seen c.is_new.new.seen (map key_in xs) (arc_value x) c.loop-key.invariant.seen new.1));
      order = subst (λ zs. AreInOrder (map arc_value (take (c.loop-key.key-index + 1) c.args.keys.now)) (map key_in zs)) (sym c.in_ok-push-in-Part.ensures.items)
          (adds_on eq law m c.args.version c.args.born c.args.tasks.now c.args.shared.now.graph (arc_value c.args.own.now) c.args.keys.now c.loop-key.key-index x c.loop-key-test.true c.key-item.is xs c.loop-key.invariant.parts p k new.0
          (unseen eq law c.loop-key.seen c.is_new.new.seen (map key_in xs) (arc_value x) c.loop-key.invariant.seen new.1) c.loop-key.invariant.order);
      seen = subst (λ zs. AreSeen eq c.is_new.new.seen (map key_in zs)) (sym c.in_ok-push-in-Part.ensures.items) (subst (AreSeen eq c.is_new.new.seen) (sym (map_last key_in xs p))
          (subst (λ z. AreSeen eq c.is_new.new.seen (map key_in xs ++ z ∷ [])) (sym k)
          (seen_new eq law c.loop-key.seen c.is_new.new.seen (map key_in xs) (arc_value x) c.loop-key.invariant.seen _ c.if-not-branch.false c.in_ok-is_new.ensures.seen)));
    }

pub returns : goal.returns
returns g c =
    let eq = g.U.Key.PartialEq.eq in
    let m = g.U.Universe.meaning in
    let keys = c.args.keys.now in
    let xs = c.loop-key.parts.items in
    let own = arc_value c.args.own.now in
    let all = ap (map arc_value) (take_all c.loop-key.key-index keys c.loop-key-test.false) in
    subst (λ zs. AreParts eq m c.args.version c.args.born c.args.tasks.now c.args.shared.now.graph own (map arc_value c.args.keys.now) zs × AreLastFirst (map arc_value c.args.keys.now) (map key_in zs)) (sym c.reverse.ensures.items) (
      parts_turned eq m c.args.version c.args.born c.args.tasks.now c.args.shared.now.graph own (map arc_value c.args.keys.now) xs
          (subst (λ ks. AreParts eq m c.args.version c.args.born c.args.tasks.now c.args.shared.now.graph own ks xs) all c.loop-key.invariant.parts),
      order_turned key_in (map arc_value c.args.keys.now) xs (subst (λ ks. AreInOrder ks (map key_in xs)) all c.loop-key.invariant.order),
    )
