use Rattle.std.proofs.Common.{sym, ap, ◌∙◌}
use Rattle.std.specs.Option.{option_copied}
use Rattle.dice_core.proofs.JobsLemmas.{held_found, held_missing}
use Rattle.dice_core.proofs.giving.task_named.Goals as goal

pub returns-in_err-tasks : goal.returns-in_err-tasks
returns-in_err-tasks g c =
    let n = c.args.name.now in
    ap option_copied c.from_residual.ensures ∙ sym (held_missing g.U.Key.PartialEq.eq c.args.versions.now.entries c.version.result n.version n.key c.version.ensures (sym c.get.ensures.value ∙ ap option_copied c.in_err-tasks.was))

pub returns : goal.returns
returns g c =
    let n = c.args.name.now in
    sym (held_found g.U.Key.PartialEq.eq c.args.versions.now.entries c.version.result n.version _ n.key c.in_ok-tasks.tasks.now _ c.version.ensures c.key.ensures (sym c.get.ensures.value ∙ ap option_copied c.in_ok-tasks.was) (sym c.task.ensures))
