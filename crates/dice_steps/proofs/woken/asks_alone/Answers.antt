use Rattle.std.proofs.Common.{rules, ◌≡◌, ◌∙◌, subst, false}
use Rattle.std.specs.Arc.{arc_value}
use Rattle.std.specs.List.{AllByRecursion}
use Rattle.task_share.specs.Seen.{waits_at}
use Rattle.dice_steps.proofs.WokenLemmas.{among, alone_of, more_of, all_taken}
use Rattle.dice_steps.proofs.woken.asks_alone.Goals as goal
use Rattle.lists.specs.Lists.{Has}

pub returns-then-ne-clause-more : goal.returns-then-ne-clause-more
returns-then-ne-clause-more g c j at _ =
    let eq = g.U.Key.PartialEq.eq in
    let k = arc_value c.args.key.now in
    let q = arc_value c.asked-item.result in
    let ws = waits_at eq c.args.tasks.now j in
    let other : eq q k ≡ false = (let a = c.if-ne.true in let b = c.ne.ensures in let d = c.deref.ensures in let e = c.deref-in-loop-asked.ensures in search rules) in
    more_of eq c.laws_of.ensures.keys k c.args.tasks.now j q ws (λ i. c.table_in_order.ensures.waits i j) (subst (λ z. Has z q) (c.waits_numbered-waits.ensures.waits j at) (among arc_value c.waits_numbered-waits.result.now c.loop-asked.asked-index c.asked-item.result c.loop-asked-test.true c.asked-item.is)) other

pub returns-clause-alone : goal.returns-clause-alone
returns-clause-alone g c j at _ =
    let eq = g.U.Key.PartialEq.eq in
    let k = arc_value c.args.key.now in
    alone_of eq c.laws_of.ensures.keys k c.args.tasks.now j (waits_at eq c.args.tasks.now j) (λ i. c.table_in_order.ensures.waits i j)
    (subst (AllByRecursion (λ q. q ≡ k)) (all_taken arc_value c.waits_numbered-waits.result.now c.loop-asked.asked-index c.loop-asked-test.false ∙ (c.waits_numbered-waits.ensures.waits j at)) c.loop-asked.invariant)
