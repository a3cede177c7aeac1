use Rattle.std.proofs.Common.{[], ◌∷◌, ◌+◌, ◌∙◌, length, ap, length-append}
use Rattle.std.specs.Arc.{arc_value}
use Rattle.dice_tasks.proofs.OwnersLemmas.{owner_more}
use Rattle.dice_tasks.proofs.owners.Owners.new.Goals as goal

pub loop-preserved : goal.loop-preserved
loop-preserved g c =
    let i = c.loop.invariant in
    let xs = c.loop.more.items in
    let p = c.in_ok-try_clone.field-0 in
    let e = c.in_ok-push.ensures.items in (
      ap length e ∙ (length-append xs (p ∷ []) ∙ ap (λ n. n + 1) i.0),
      owner_more (arc_value c.args.path) p xs c.push.new.self.items i.1 c.in_ok-try_clone.ensures e,
    )
