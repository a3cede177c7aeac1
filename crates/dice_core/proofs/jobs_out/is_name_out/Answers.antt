use Rattle.std.proofs.Common.{◌≡◌, ◌↔◌, IsTrue, sym, ap, ◌∙◌, subst}
use Rattle.std.specs.Option.{option_copied}
use Rattle.task_share.specs.Seen.{task_at}
use Rattle.dice_core.proofs.JobsLemmas.{job_named}
use Rattle.dice_core.proofs.jobs_out.is_name_out.Goals as goal

pub returns-then-is_out : goal.returns-then-is_out
returns-then-is_out g c =
    let a = c.in-Some-assignment.ensures.some in
    job_named g.U.Key.PartialEq.eq c.args.name.now c.args.tasks.now c.in-Some.task.now c.in-Some-assignment.own.now a.0 c.is_same.result
    (ap (task_at g.U.Key.PartialEq.eq c.args.tasks.now) (sym c.key.ensures) ∙ (sym c.task.ensures ∙ ap option_copied c.in-Some.is)) a.1 (sym c.is_out.ensures ∙ c.if-is_out.true) (subst (λ n. IsTrue c.is_same.result ↔ (n ≡ c.args.name.now)) c.name.ensures c.is_same.ensures)
