use Rattle.std.proofs.Common.{sym, ap, ◌∙◌, Some}
use Rattle.std.specs.Arc.{arc_value}
use Rattle.core_laws.specs.Tasks.{IsReady, IsOut}
use Rattle.dice_tasks.specs.Helds.{held_of}
use Rattle.dice_tasks.proofs.TakeLemmas.{some_so}
use Rattle.dice_tasks.proofs.WaitLemmas.{turned_by}
use Rattle.dice_tasks.proofs.wait.take_job.Goals as goal

pub returns-clause-taken : goal.returns-clause-taken
returns-clause-taken g c = some_so c.take.result _ _ (λ j h. turned_by g.U.Key.PartialEq.eq c.laws_of.ensures.keys (arc_value c.args.key.now) (held_of j IsReady) (held_of j IsOut) c.take.new.self c.args.tasks.now (c.task_mut.follows.lender c.take.new.self)
    (sym c.in_ok-task.ensures.value ∙ ap Some h.0) h.1 (rw c.in_ok-task.was at (c.task_mut.follows.holds c.take.new.self))) c.take.ensures.some
