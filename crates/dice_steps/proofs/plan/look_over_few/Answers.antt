use Rattle.std.proofs.Common.{◌≡◌, ◌≢◌, ◌⊎◌, [], ◌+◌, sym, ap, subst, map, take}
use Rattle.std.specs.Arc.{arc_value}
use Rattle.std.proofs.lemmas.List.{take_all}
use Rattle.dice_key.specs.declared.universe.Kind.TheVariants.{Injected}
use Rattle.dice_steps.specs.Orders.{AreInOrder, AreLastFirst}
use Rattle.dice_steps.specs.Plans.{key_in, AreParts}
use Rattle.dice_steps.proofs.OrderLemmas.{order_turned}
use Rattle.dice_steps.proofs.PartLemmas.{parts_none, parts_turned}
use Rattle.dice_steps.proofs.SurveyLemmas.{batch_at, comes_to_none, skips, skips_on, adds, adds_on}
use Rattle.dice_steps.proofs.plan.look_over_few.Goals as goal
use Rattle.lists.specs.Lists.{Has}

pub returns-in-Cycle : goal.returns-in-Cycle
returns-in-Cycle g c =
    let at = batch_at c.args.keys.now c.loop-key.key-index c.key-item.result c.loop-key-test.true c.key-item.is in
    record {
      before = map arc_value (take c.loop-key.key-index c.args.keys.now);
      key = arc_value c.key-item.result;
      later = at.0;
      all = at.1;
      earlier = comes_to_none g.U.Key.PartialEq.eq c.laws_of.ensures.keys g.U.Universe.meaning c.args.version c.args.born c.args.tasks.now c.args.shared.now.graph (arc_value c.args.own.now) c.args.keys.now c.loop-key.key-index c.key-item.result c.loop-key-test.true c.key-item.is c.loop-key.parts.items c.loop-key.invariant.parts;
      found = rw c.in-Cycle.is at c.in_ok-path.ensures;
    }

pub loop-key-init : goal.loop-key-init
loop-key-init g c =
    let eq = g.U.Key.PartialEq.eq in
    record {
      parts = subst (λ zs. AreParts eq g.U.Universe.meaning c.args.version c.args.born c.args.tasks.now c.args.shared.now.graph (arc_value c.args.own.now) [] zs) (sym c.new-parts.ensures.items) (parts_none eq g.U.Universe.meaning c.args.version c.args.born c.args.tasks.now c.args.shared.now.graph (arc_value c.args.own.now));
      order = subst (λ zs. AreInOrder [] (map key_in zs)) (sym c.new-parts.ensures.items) (λ x y h. absurd h);
    }

pub loop-key-preserved-then-is_passed : goal.loop-key-preserved-then-is_passed
loop-key-preserved-then-is_passed g c =
    let x = arc_value c.key-item.result in
    let passed = subst (λ zs. (g.U.Universe.meaning.kind x ≡ Injected) ⊎ Has (map key_in zs) x) c.deref-in-loop-key.ensures.value (rw c.if-is_passed.true at c.is_passed.ensures) in
    record {
      parts = skips g.U.Key.PartialEq.eq c.laws_of.ensures.keys g.U.Universe.meaning c.args.version c.args.born c.args.tasks.now c.args.shared.now.graph (arc_value c.args.own.now) c.args.keys.now c.loop-key.key-index c.key-item.result c.loop-key-test.true c.key-item.is c.loop-key.parts.items c.loop-key.invariant.parts passed;
      order = skips_on g.U.Key.PartialEq.eq c.laws_of.ensures.keys g.U.Universe.meaning c.args.version c.args.born c.args.tasks.now c.args.shared.now.graph (arc_value c.args.own.now) c.args.keys.now c.loop-key.key-index c.key-item.result c.loop-key-test.true c.key-item.is c.loop-key.parts.items c.loop-key.invariant.parts c.loop-key.invariant.order;
    }

pub loop-key-preserved : goal.loop-key-preserved
loop-key-preserved g c =
    let eq = g.U.Key.PartialEq.eq in
    let m = g.U.Universe.meaning in
    let x = arc_value c.key-item.result in
    let new = subst (λ zs. (m.kind x ≢ Injected) × (Has (map key_in zs) x → ⊥)) c.deref-in-loop-key.ensures.value (rw c.if-is_passed.false at c.is_passed.ensures) in
    let p = c.in-Part.part in
    let met = rw c.in-Part.is at c.in_ok-path.ensures in
    let so_far = c.loop-key.invariant in
    let xs = c.loop-key.parts.items in
    record {
      parts = subst (λ zs. AreParts eq m c.args.version c.args.born c.args.tasks.now c.args.shared.now.graph (arc_value c.args.own.now) (map arc_value (take (c.loop-key.key-index + 1) c.args.keys.now)) zs) (sym c.in_ok-push-in-Part.ensures.items)
          (adds eq c.laws_of.ensures.keys m c.args.version c.args.born c.args.tasks.now c.args.shared.now.graph (arc_value c.args.own.now) c.args.keys.now c.loop-key.key-index c.key-item.result c.loop-key-test.true c.key-item.is xs so_far.parts p met.1 met.0 met.2 new.1);
      order = subst (λ zs. AreInOrder (map arc_value (take (c.loop-key.key-index + 1) c.args.keys.now)) (map key_in zs)) (sym c.in_ok-push-in-Part.ensures.items)
          (adds_on eq c.laws_of.ensures.keys m c.args.version c.args.born c.args.tasks.now c.args.shared.now.graph (arc_value c.args.own.now) c.args.keys.now c.loop-key.key-index c.key-item.result c.loop-key-test.true c.key-item.is xs so_far.parts p met.1 new.0 new.1 so_far.order);
    }

pub returns : goal.returns
returns g c =
    let eq = g.U.Key.PartialEq.eq in
    let m = g.U.Universe.meaning in
    let keys = c.args.keys.now in
    let xs = c.loop-key.parts.items in
    let own = arc_value c.args.own.now in
    let all = ap (map arc_value) (take_all c.loop-key.key-index keys c.loop-key-test.false) in
    subst (λ zs. AreParts eq m c.args.version c.args.born c.args.tasks.now c.args.shared.now.graph own (map arc_value c.args.keys.now) zs × AreLastFirst (map arc_value c.args.keys.now) (map key_in zs)) (sym c.reverse.ensures.items) (
      parts_turned eq m c.args.version c.args.born c.args.tasks.now c.args.shared.now.graph own (map arc_value c.args.keys.now) xs
          (subst (λ ks. AreParts eq m c.args.version c.args.born c.args.tasks.now c.args.shared.now.graph own ks xs) all c.loop-key.invariant.parts),
      order_turned key_in (map arc_value c.args.keys.now) xs (subst (λ ks. AreInOrder ks (map key_in xs)) all c.loop-key.invariant.order),
    )
