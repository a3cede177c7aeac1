use Rattle.std.proofs.Common.{◌≡◌, ◌∙◌, true, false, sym, ap, subst, IfSome, IfOk}
use Rattle.std.specs.Arc.{arc_value}
use Rattle.std.specs.List.{AllZip}
use Rattle.std.proofs.lemmas.Option.{same_Some}
use Rattle.std.proofs.lemmas.Result.{IfOk-weaker}
use Rattle.core_laws.specs.Tasks.{IsWaiting, waits_for}
use Rattle.dice_tasks.specs.Helds.{Held, FollowsOn, held_of}
use Rattle.dice_tasks.proofs.Tasks.{held_job}
use Rattle.versioned_graph.specs.Entries.{kept_of}
use Rattle.dice_steps.specs.Agreements.{IsEntryOf, HoldsAtBase}
use Rattle.dice_steps.specs.Wokens.{IsAnswer, IsAnswered}
use Rattle.dice_steps.proofs.WokenLemmas.{among, zip_next, all_taken, answered_so}
use Rattle.dice_steps.proofs.woken.next_of.Goals as goal
use Rattle.lists.proofs.Each.{zip_length}
use Rattle.lists.specs.Lists.{Has}

pub loop-asked-preserved : goal.loop-asked-preserved
loop-asked-preserved g c =
    let R = IsAnswer g.U.Key.PartialEq.eq g.U.Universe.meaning c.args.shared.now.cells c.args.version (arc_value c.args.ended.now.key.now) (arc_value c.args.ended.now.value.now) c.args.tasks.now in
    zip_next R arc_value c.keys-keys.result.now c.loop-asked.asked-index c.asked-item.result c.loop-asked.answers c.push.new.self (arc_value c.in_ok-try_clone.field-0) c.loop-asked-test.true c.asked-item.is c.loop-asked.invariant
    (subst (R (arc_value c.asked-item.result)) (sym c.in_ok-try_clone.ensures) c.in-Some-answer_of.ensures.answer) c.in_ok-push.ensures.ok

-- each key of the batch has an answer
pub unreachable-requires-in_default-answer_of : goal.unreachable-requires-in_default-answer_of
unreachable-requires-in_default-answer_of g c =
    let w = c.requires.2.waits in
    let q = arc_value c.asked-item.result in
    let is : c.in-Some.task.now ≡ held_of w.job (IsWaiting w.keys) = same_Some _ _ (c.in-Some.ensures.task c.requires.0 c.requires.1 ∙ c.requires.2.held) in
    let keys = same_Some _ _ (c.in-Some-batch.ensures ∙ ap (λ (z : Held g.row.U-Key.Denot g.row.U-Value.Denot). waits_for z.standing) is) in
    let among_keys = subst (λ ks. Has ks q) (c.keys-keys.ensures ∙ keys) (among arc_value c.keys-keys.result.now c.loop-asked.asked-index c.asked-item.result c.loop-asked-test.true c.asked-item.is) in
    let none : false ≡ true = c.in_default-answer_of.ensures.some (c.requires.2.answers q among_keys) in
    cc

pub next-requires-after_bounds : goal.next-requires-after_bounds
next-requires-after_bounds g c κs within =
    let eq = g.U.Key.PartialEq.eq in
    let m = g.U.Universe.meaning in
    let k = arc_value c.args.ended.now.key.now in
    let x = arc_value c.args.ended.now.value.now in
    let w = c.requires.2.waits in
    let is : c.in-Some.task.now ≡ held_of w.job (IsWaiting w.keys) = same_Some _ _ (c.in-Some.ensures.task c.requires.0 c.requires.1 ∙ c.requires.2.held) in
    let keys = same_Some _ _ (c.in-Some-batch.ensures ∙ ap (λ (z : Held g.row.U-Key.Denot g.row.U-Value.Denot). waits_for z.standing) is) in
    let R = IsAnswer eq m c.args.shared.now.cells c.args.version k x c.args.tasks.now in
    let z : AllZip R w.keys c.loop-asked.answers = subst (λ ks. AllZip R ks c.loop-asked.answers) (all_taken arc_value c.keys-keys.result.now c.loop-asked.asked-index c.loop-asked-test.false ∙ (c.keys-keys.ensures ∙ keys)) c.loop-asked.invariant in
    let held = rw c.in-Some-assignment.is at c.assignment.ensures.some in
    let job : c.in-Some-assignment.assignment.now ≡ w.job = held_job _ w.job held.0 (IsWaiting w.keys) (sym held.1 ∙ is) in (
      w,
      is,
      zip_length _ _ _ z,
      λ on. (let h = c.holds_at_base-agreed.ensures on in
          let entry = subst (λ o. IfSome o (λ e. IsEntryOf eq c.requires.3 k x (kept_of e))) h.1 c.requires.4 in
          c.requires.5 w (kept_of h.0) c.loop-asked.answers c.requires.2.held entry (subst (λ a. HoldsAtBase (kept_of h.0) a w.keys) job (subst (λ ks. HoldsAtBase (kept_of h.0) c.in-Some-assignment.assignment.now ks) keys h.2)) z),
    )

pub returns : goal.returns
returns g c q at =
    let eq = g.U.Key.PartialEq.eq in
    let m = g.U.Universe.meaning in
    let k = arc_value c.args.ended.now.key.now in
    let x = arc_value c.args.ended.now.value.now in
    let j = c.requires.0 in
    let w = c.requires.2.waits in
    let R = IsAnswer eq m c.args.shared.now.cells c.args.version k x c.args.tasks.now in
    let is : c.in-Some.task.now ≡ held_of w.job (IsWaiting w.keys) = same_Some _ _ (c.in-Some.ensures.task c.requires.0 c.requires.1 ∙ c.requires.2.held) in
    let keys = same_Some _ _ (c.in-Some-batch.ensures ∙ ap (λ (z : Held g.row.U-Key.Denot g.row.U-Value.Denot). waits_for z.standing) is) in
    let z : AllZip R w.keys c.loop-asked.answers = subst (λ ks. AllZip R ks c.loop-asked.answers) (all_taken arc_value c.keys-keys.result.now c.loop-asked.asked-index c.loop-asked-test.false ∙ (c.keys-keys.ensures ∙ keys)) c.loop-asked.invariant in
    subst (λ a. IfOk c.next.result (IsAnswered eq m c.args.shared.now.cells c.args.version k x c.args.tasks.now a)) (same_Some j q (sym c.requires.1 ∙ at))
    (IfOk-weaker c.next.result (λ n. FollowsOn c.in-Some.task.now n × (n.values ≡ c.loop-asked.answers)) (IsAnswered eq m c.args.shared.now.cells c.args.version k x c.args.tasks.now j)
    (λ n h. answered_so eq m c.args.shared.now.cells c.args.version k x c.args.tasks.now j c.in-Some.task.now w n c.loop-asked.answers (sym (c.in-Some.ensures.task c.requires.0 c.requires.1)) is h.0 h.1 z) c.next.ensures)
