use Rattle.std.proofs.Common.{◌≡◌, ◌∙◌, ap, sym, subst}
use Rattle.dice_run.specs.Run.{Sums}
use Rattle.dice_run.specs.declared.status.Status.TheVariants.{Done, WriteFailed}
use Rattle.dice_run.proofs.bulk.run_bulk.Goals as goal

pub returns-in-Ok-clause-done : goal.returns-in-Ok-clause-done
returns-in-Ok-clause-done g c e =
    let ending = c.in-Ok.ending in
    let w = c.write_out.ensures.written (λ f. (let h : Done ≡ WriteFailed = sym e ∙ f in cc)) in
    (ending.out.items, subst (Sums c.args.targets ending.out.items) (sym (ap (λ r. r.1) w.0)) c.in-Ok.ensures.sums, w.1)
