use Rattle.std.proofs.Common.{◌∙◌, sym, subst, IfSome}
use Rattle.std.specs.Arc.{arc_value}
use Rattle.dice_tasks.specs.Helds.{came}
use Rattle.dice_tasks.specs.Loads.{AreCopies}
use Rattle.dice_tasks.proofs.EndedLemmas.{ends_task}
use Rattle.dice_tasks.proofs.end.end_task.Goals as goal

pub ended_numbered-requires : goal.ended_numbered-requires
ended_numbered-requires g c =
    let writes = rw c.in_ok-task.was at (c.task_mut_numbered.follows.holds c.end-spare.new.self) in
    (arc_value c.args.key.now, writes.1 c.in_ok-number.number ∙ c.in_ok-number.ensures.some)

pub returns-clause-ended : goal.returns-clause-ended
returns-clause-ended g c =
    let k = arc_value c.args.key.now in
    let at = c.in_ok-number.ensures.some in
    let writes = rw c.in_ok-task.was at (c.task_mut_numbered.follows.holds c.end-spare.new.self) in
    let later = writes.1 c.in_ok-number.number ∙ at in (
      c.in_ok-task.task.now,
      ends_task g.U.Key.PartialEq.eq c.laws_of.ensures.keys c.args.version k c.in_ok-task.task.now c.end-spare.new.self (came c.args.outcome) c.args.tasks.now (c.task_mut_numbered.follows.lender c.end-spare.new.self) _ _ c.quit.new.desk _
          c.requires.known c.requires.live (sym (c.in_ok-task.ensures.value k at)) c.end-spare.ensures.ended (writes.0 k at)
          c.ended_numbered.ensures.tasks (c.ended_numbered.ensures.live k later) (c.ended_numbered.ensures.asks k later) (c.ended_numbered.ensures.room k later) c.quit.ensures c.ended.ensures,
    )

pub returns-clause-spare : goal.returns-clause-spare
returns-clause-spare g c =
    let k = arc_value c.args.key.now in
    let named = c.requires.known.named k c.in_ok-task.task.now (sym (c.in_ok-task.ensures.value k c.in_ok-number.ensures.some)) in
    subst (λ q. IfSome c.end-spare.result (AreCopies q)) named.1 c.end-spare.ensures.spare
