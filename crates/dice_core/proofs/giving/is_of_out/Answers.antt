use Rattle.std.proofs.Common.{◌≡◌, Some, sym, ap, ◌∙◌, subst}
use Rattle.std.specs.Option.{option_copied}
use Rattle.task_share.specs.Seen.{task_at}
use Rattle.core_laws.specs.Tasks.{IsOut}
use Rattle.dice_jobs.specs.Jobs.{Name}
use Rattle.dice_tasks.specs.Helds.{held_of}
use Rattle.dice_core.specs.Cores.{table_at}
use Rattle.dice_core.proofs.JobsLemmas.{found_iff}
use Rattle.dice_core.proofs.giving.is_of_out.Goals as goal

pub returns-in-Some : goal.returns-in-Some
returns-in-Some g c =
    let ts = c.args.versions.now.entries in
    let task = c.in-Some.task.now in
    let named = c.name.ensures ∙ ap (λ a. a.name) c.assignment.ensures in
    let there = subst (λ (n : Name g.row.U-Key.Denot). task_at g.U.Key.PartialEq.eq (table_at ts n.version) n.key ≡ Some task) named (sym c.task_named.ensures ∙ ap option_copied c.in-Some.is) in
    found_iff c.is_of.result _ task (held_of c.args.step.now.job IsOut) there c.is_of.ensures
