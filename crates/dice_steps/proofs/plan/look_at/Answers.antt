use Rattle.std.proofs.Common.{◌≡◌, inl, map, [], ◌∷◌, ◌++◌, refl, sym, ◌∙◌, subst}
use Rattle.std.specs.Arc.{arc_value}
use Rattle.dice_key.specs.declared.universe.Kind.TheVariants.{Injected}
use Rattle.task_share.specs.Asked.{Leads}
use Rattle.task_share.specs.Seen.{asked_of}
use Rattle.dice_steps.specs.Orders.{AreLastFirst}
use Rattle.dice_steps.specs.Plans.{key_in, AreParts}
use Rattle.dice_steps.proofs.OrderLemmas.{order_one}
use Rattle.dice_steps.proofs.PartLemmas.{parts_none, parts_skip, parts_more}
use Rattle.dice_steps.proofs.plan.look_at.Goals as goal

pub returns-in-Injected : goal.returns-in-Injected
returns-in-Injected g c =
    let eq = g.U.Key.PartialEq.eq in
    let m = g.U.Universe.meaning in
    let own = arc_value c.args.own.now in
    let k = arc_value c.args.key.now in
    let injected : m.kind k ≡ Injected = subst (λ z. m.kind z ≡ Injected) c.deref-2.ensures (sym c.kind.ensures ∙ c.in-Injected.is) in
    subst (λ zs. AreParts eq m c.args.version c.args.born c.args.tasks.now c.args.shared.now.graph own (k ∷ []) zs × AreLastFirst (k ∷ []) (map key_in zs)) (sym c.new-parts.ensures.items)
    (parts_skip eq m c.args.version c.args.born c.args.tasks.now c.args.shared.now.graph own [] k [] (parts_none eq m c.args.version c.args.born c.args.tasks.now c.args.shared.now.graph own) (inl injected), λ x y h. absurd h)

pub returns-in-Cycle : goal.returns-in-Cycle
returns-in-Cycle g c = record {
  before = [];
  key = arc_value c.args.key.now;
  later = [];
  all = refl;
  earlier = λ q h. absurd h;
  found = rw c.in-Cycle.is at c.in_ok-path.ensures;
}

pub returns-in_ok-push-in-Part : goal.returns-in_ok-push-in-Part
returns-in_ok-push-in-Part g c =
    let eq = g.U.Key.PartialEq.eq in
    let m = g.U.Universe.meaning in
    let own = arc_value c.args.own.now in
    let k = arc_value c.args.key.now in
    let p = c.in-Part.part in
    let met = rw c.in-Part.is at c.in_ok-path.ensures in
    let is = met.1 in
    subst (λ zs. AreParts eq m c.args.version c.args.born c.args.tasks.now c.args.shared.now.graph own (k ∷ []) zs × AreLastFirst (k ∷ []) (map key_in zs)) (sym c.in_ok-push-in-Part.ensures.items)
    (subst (λ zs. AreParts eq m c.args.version c.args.born c.args.tasks.now c.args.shared.now.graph own (k ∷ []) (zs ++ p ∷ []) × AreLastFirst (k ∷ []) (map key_in (zs ++ p ∷ []))) (sym c.new-parts.ensures.items) (
      subst (λ z. AreParts eq m c.args.version c.args.born c.args.tasks.now c.args.shared.now.graph own (z ∷ []) (p ∷ [])) is
          (parts_more eq m c.args.version c.args.born c.args.tasks.now c.args.shared.now.graph own [] [] p (parts_none eq m c.args.version c.args.born c.args.tasks.now c.args.shared.now.graph own) met.0 (subst (λ z. Leads (asked_of eq c.args.tasks.now) z own → ⊥) (sym is) met.2) (λ h. h)),
      order_one (k ∷ []) (key_in p),
    ))
