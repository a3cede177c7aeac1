use Rattle.std.proofs.Common.{◌≡◌, Some, sym, ap, ◌∙◌, subst}
use Rattle.std.specs.Option.{option_copied}
use Rattle.std.proofs.lemmas.Option.{same_Some}
use Rattle.task_share.specs.Seen.{task_at}
use Rattle.dice_jobs.specs.Jobs.{Name}
use Rattle.dice_core.specs.Cores.{table_at}
use Rattle.dice_core.proofs.giving.is_like_out.Goals as goal

pub returns-in-Some : goal.returns-in-Some
returns-in-Some g c =
    let eq = g.U.Key.PartialEq.eq in
    let ts = c.args.versions.now.entries in
    let task = c.in-Some.task.now in
    let named = c.name.ensures ∙ ap (λ a. a.name) c.assignment.ensures in
    let there = subst (λ (n : Name g.row.U-Key.Denot). task_at eq (table_at ts n.version) n.key ≡ Some task) named (sym c.task_named.ensures ∙ ap option_copied c.in-Some.is) in
    (λ t. (let j = c.is_like.ensures.0 t in (j.0, there ∙ ap Some j.1, j.2)), λ j. c.is_like.ensures.1 (j.0, same_Some _ _ (sym there ∙ j.1), j.2))
