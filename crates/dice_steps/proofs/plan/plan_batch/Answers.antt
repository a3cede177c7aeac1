use Rattle.std.proofs.Common.{◌≡◌, ◌<◌, ◌≤◌, ◌∙◌, length, ap, sym, subst, arith}
use Rattle.std.specs.Arc.{arc_value}
use Rattle.std.specs.List.{AllZip}
use Rattle.dice_jobs.specs.Jobs.{Name}
use Rattle.task_share.specs.Seen.{wait_room}
use Rattle.dice_steps.specs.Plans.{waits_of, AreMakings, ArePlaced, IsAtHand, HasNone}
use Rattle.dice_steps.specs.Agreements.{HoldsAtBoth}
use Rattle.dice_steps.proofs.AgreedLemmas.{at_hand_agrees}
use Rattle.dice_steps.proofs.NotedLemmas.{not_empty}
use Rattle.dice_steps.proofs.PartLemmas.{parts_same}
use Rattle.dice_steps.proofs.PlanLemmas.{none_there, parts_as, goes_so, waits_some, waits_none}
use Rattle.dice_steps.proofs.plan.plan_batch.Goals as goal
use Rattle.lists.proofs.Each.{zip_length}

pub answers_of-requires-after_bounds : goal.answers_of-requires-after_bounds
answers_of-requires-after_bounds g c κs within =
    let eq = g.U.Key.PartialEq.eq in
    let m = g.U.Universe.meaning in
    let xs = c.in-Parts.parts.items in
    let v = c.version-version.result in
    let born = c.told_so_far-born.result in
    let found = rw c.in-Parts.is at c.in_ok-path.ensures in
    let parts = parts_same eq c.args.tasks.now c.reserve_parts.new.tasks c.reserve_parts.ensures.tasks m v born c.args.shared.now.graph c.reserve_parts.ensures.asks (arc_value c.key-own.result.now) c.args.batch.now xs found.0 in
    (born, subst (AreMakings eq m v born c.reserve_parts.new.tasks c.args.shared.now.graph) (sym c.deref-2.ensures.value) parts.each)

pub of_batch-requires-clause-count : goal.of_batch-requires-clause-count
of_batch-requires-clause-count g c κs within =
    zip_length (IsAtHand g.U.Key.PartialEq.eq g.U.Universe.meaning c.version-version.result c.reserve_parts.new.tasks c.args.shared.now.graph c.args.shared.now.cells) c.args.batch.now c.in-Some.answers (rw c.in-Some.is at c.in_ok-answers.ensures.some)

pub of_batch-requires-clause-agreed : goal.of_batch-requires-clause-agreed
of_batch-requires-clause-agreed g c κs within agreed =
    let eq = g.U.Key.PartialEq.eq in
    let m = g.U.Universe.meaning in
    let a = c.args.assignment.now in
    let ks = c.args.batch.now in
    let r = c.requires.hand in
    let version = c.version-version.ensures ∙ ap (λ (n : Name g.row.U-Key.Denot). n.version) c.name-name.ensures in
    let some = rw c.in-Some.is at c.in_ok-answers.ensures.some in
    at_hand_agrees eq m c.laws_of.ensures.keys c.laws_of.ensures.lawful a.name.version r.0 c.args.owed a ks c.args.tasks.now c.reserve_parts.new.tasks c.args.shared.now.desk c.args.shared.now.graph c.args.shared.now.cells r.1 c.requires.out c.requires.next c.reserve_parts.ensures.tasks c.in-Some.answers
    (subst (λ v. AllZip (IsAtHand eq m v c.reserve_parts.new.tasks c.args.shared.now.graph c.args.shared.now.cells) ks c.in-Some.answers) version some)
    (subst (λ v. HoldsAtBoth eq c.args.shared.now.graph v a ks) version (c.holds_at_both-agreed.ensures agreed))

pub returns-then-not-is_empty-clause-plan : goal.returns-then-not-is_empty-clause-plan
returns-then-not-is_empty-clause-plan g c =
    let eq = g.U.Key.PartialEq.eq in
    let m = g.U.Universe.meaning in
    let a = c.args.assignment.now in
    let xs = c.in-Parts.parts.items in
    let version = c.version-version.ensures ∙ ap (λ (n : Name g.row.U-Key.Denot). n.version) c.name-name.ensures in
    let own = c.key-own.ensures ∙ ap (λ (n : Name g.row.U-Key.Denot). n.key) c.name-name.ensures in
    let found = rw c.in-Parts.is at c.in_ok-path.ensures in
    let parts = parts_as eq m c.version-version.result a.name.version version c.told_so_far-born.result _ (arc_value c.key-own.result.now) a.name.key c.args.batch.now xs _ _ c.told_so_far-born.ensures own found.0 in
    let made = c.in_ok-waits.ensures in
    let ws = c.in_ok-waits.waits.items in
    let count : c.len-count.result ≡ length xs = omega arith in
    waits_some eq c.laws_of.ensures.keys m a.name.version a c.args.batch.now xs _ _ _ _ _ c.args.shared.now.cells c.reserve_parts.ensures.tasks c.reserve_parts.ensures.asks c.reserve.ensures.same parts found.1 c.args.owed c.len-count.result c.len-count.result count count (subst (λ z. ArePlaced eq z c.reserve_parts.new.tasks) c.deref.ensures.value made.placed) c.in_ok-reserve.ensures.ok ws
    (made.waits ∙ (ap (waits_of (arc_value c.key-own.result.now)) c.deref.ensures.value ∙ ap (λ k. waits_of k xs) own)) (subst (λ k. length ws ≤ wait_room eq c.reserve_parts.new.tasks k) own made.fits)
    (let n : 0 < c.in_ok-waits.waits.len = not_empty c.is_empty.result c.in_ok-waits.waits.len c.is_empty.ensures c.if-not-is_empty.true in omega arith)

pub returns-in_default-clause-plan : goal.returns-in_default-clause-plan
returns-in_default-clause-plan g c =
    let eq = g.U.Key.PartialEq.eq in
    let m = g.U.Universe.meaning in
    let a = c.args.assignment.now in
    let xs = c.in-Parts.parts.items in
    let version = c.version-version.ensures ∙ ap (λ (n : Name g.row.U-Key.Denot). n.version) c.name-name.ensures in
    let own = c.key-own.ensures ∙ ap (λ (n : Name g.row.U-Key.Denot). n.key) c.name-name.ensures in
    let found = rw c.in-Parts.is at c.in_ok-path.ensures in
    let parts = parts_as eq m c.version-version.result a.name.version version c.told_so_far-born.result _ (arc_value c.key-own.result.now) a.name.key c.args.batch.now xs _ _ c.told_so_far-born.ensures own found.0 in
    let made = c.in_ok-waits.ensures in
    let ws = c.in_ok-waits.waits.items in
    let count : c.len-count.result ≡ length xs = omega arith in
    let none = rw c.in_default.is at c.in_ok-answers.ensures.none in
    waits_none eq c.laws_of.ensures.keys m a.name.version a c.args.batch.now xs _ _ _ _ _ c.args.shared.now.cells c.reserve_parts.ensures.tasks c.reserve_parts.ensures.asks c.reserve.ensures.same parts found.1 c.args.owed c.len-count.result c.len-count.result count count (subst (λ z. ArePlaced eq z c.reserve_parts.new.tasks) c.deref.ensures.value made.placed) c.in_ok-reserve.ensures.ok ws
    (made.waits ∙ (ap (waits_of (arc_value c.key-own.result.now)) c.deref.ensures.value ∙ ap (λ k. waits_of k xs) own)) (subst (λ k. length ws ≤ wait_room eq c.reserve_parts.new.tasks k) own made.fits)
    c.requires.hand.0 c.args.owed c.requires.hand.1.working none.0 none.1 (subst (λ v. HasNone eq m v c.reserve_parts.new.tasks c.args.shared.now.graph none.0) version none.2)

pub returns-clause-plan : goal.returns-clause-plan
returns-clause-plan g c =
    let eq = g.U.Key.PartialEq.eq in
    let m = g.U.Universe.meaning in
    let a = c.args.assignment.now in
    let xs = c.in-Parts.parts.items in
    let version = c.version-version.ensures ∙ ap (λ (n : Name g.row.U-Key.Denot). n.version) c.name-name.ensures in
    let own = c.key-own.ensures ∙ ap (λ (n : Name g.row.U-Key.Denot). n.key) c.name-name.ensures in
    let found = rw c.in-Parts.is at c.in_ok-path.ensures in
    let parts = parts_as eq m c.version-version.result a.name.version version c.told_so_far-born.result _ (arc_value c.key-own.result.now) a.name.key c.args.batch.now xs _ _ c.told_so_far-born.ensures own found.0 in
    let made = c.in_ok-waits.ensures in
    let ws = c.in_ok-waits.waits.items in
    let count : c.len-count.result ≡ length xs = omega arith in
    let some = rw c.in-Some.is at c.in_ok-answers.ensures.some in
    goes_so eq c.laws_of.ensures.keys m a.name.version a c.args.batch.now xs _ _ _ _ _ c.args.shared.now.cells c.reserve_parts.ensures.tasks c.reserve_parts.ensures.asks c.reserve.ensures.same parts found.1 c.args.owed c.len-count.result c.len-count.result count count (subst (λ z. ArePlaced eq z c.reserve_parts.new.tasks) c.deref.ensures.value made.placed) c.in_ok-reserve.ensures.ok ws
    (made.waits ∙ (ap (waits_of (arc_value c.key-own.result.now)) c.deref.ensures.value ∙ ap (λ k. waits_of k xs) own)) (subst (λ k. length ws ≤ wait_room eq c.reserve_parts.new.tasks k) own made.fits)
    c.in_ok-next.next c.in-Some.answers c.in_ok-next.ensures (let n : c.in_ok-waits.waits.len ≡ 0 = none_there c.is_empty.result c.in_ok-waits.waits.len c.is_empty.ensures c.if-not-is_empty.false in omega arith) (subst (λ v. AllZip (IsAtHand eq m v c.reserve_parts.new.tasks c.args.shared.now.graph c.args.shared.now.cells) c.args.batch.now c.in-Some.answers) version some)
