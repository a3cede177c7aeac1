use Rattle.std.proofs.Common.{◌≡◌, ◌∙◌, Some, sym, subst}
use Rattle.std.proofs.lemmas.Option.{none-some, same_Some}
use Rattle.core_laws.specs.Tasks.{IsReady}
use Rattle.dice_tasks.specs.Helds.{held_of, FollowsOn}
use Rattle.task_share.specs.Seen.{task_at}
use Rattle.dice_tasks.proofs.WaitLemmas.{turned_by}
use Rattle.dice_steps.proofs.wake.resume.Goals as goal

pub unreachable-requires : goal.unreachable-requires
unreachable-requires g c =
    let r = c.requires in
    none-some r.1 (c.in_default.ensures.value r.0 r.2 ∙ r.3)

pub resume-requires-after_bounds : goal.resume-requires-after_bounds
resume-requires-after_bounds g c κs within =
    let r = c.requires in
    let s : r.1 ≡ c.in-Some.task.now = same_Some r.1 c.in-Some.task.now (sym (c.in-Some.ensures.value r.0 r.2 ∙ r.3)) in
    subst (λ h. FollowsOn h c.args.next) s r.4

pub returns-clause-turned : goal.returns-clause-turned
returns-clause-turned g c k at =
    let r = c.requires in
    let was = subst (λ q. task_at g.U.Key.PartialEq.eq c.args.tasks.now q ≡ Some r.1) (same_Some r.0 k (sym r.2 ∙ at)) r.3 in
    (r.1, turned_by g.U.Key.PartialEq.eq c.laws_of.ensures.keys k r.1 (held_of c.args.next.job IsReady) c.resume.new.self _ _ was c.resume.ensures ((rw c.in-Some.is at (c.task_mut_numbered.follows.holds c.resume.new.self)).0 k at))

pub returns-clause-numbers : goal.returns-clause-numbers
returns-clause-numbers g c = (rw c.in-Some.is at (c.task_mut_numbered.follows.holds c.resume.new.self)).1
