use Rattle.std.proofs.Common.{◌≡◌, ◌∙◌, inl, ap}
use Rattle.std.specs.Arc.{arc_value}
use Rattle.dice_jobs.specs.Jobs.{Name, Assigned}
use Rattle.journal.specs.declared.event.Told.TheVariants.{End}
use Rattle.dice_steps.proofs.finish.done.Goals as goal

pub end_step-requires-clause-ends : goal.end_step-requires-clause-ends
end_step-requires-clause-ends g c κs bounds =
    let named : c.name-name.result.now ≡ c.args.step.now.job.name = c.name-name.ensures ∙ ap (λ (z : Assigned g.row.U-Key.Denot g.row.U-Value.Denot). z.name) c.assignment.ensures in
    let there : c.version.result ≡ c.args.step.now.job.name.version = c.version.ensures ∙ ap (λ (n : Name g.row.U-Key.Denot). n.version) named in
    let key : arc_value c.in_ok-try_clone.field-0 ≡ c.args.step.now.job.name.key = c.in_ok-try_clone.ensures ∙ (c.key.ensures ∙ ap (λ (n : Name g.row.U-Key.Denot). n.key) named) in
    inl (c.requires.done, (λ i. End (there i) (key i)))
