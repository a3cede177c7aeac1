use Rattle.std.proofs.Common.{◌≡◌, ◌∙◌, inl, inr, ap, sym, subst, List, ℕ}
use Rattle.dice_run.specs.Run.{Answers, Refuses, IsWritten}
use Rattle.dice_run.specs.declared.status.Status.TheVariants.{Done, ScriptRefused, WriteFailed}
use Rattle.dice_run.proofs.Inputs.{read_whole}
use Rattle.dice_run.proofs.run_of.run_script.Goals as goal

pub returns-in-Ok-answer-clause-script : goal.returns-in-Ok-answer-clause-script
returns-in-Ok-answer-clause-script g c e =
    let ending = c.in-Ok-answer.ending in
    let w = c.write_out.ensures.written (λ f. (let h : ScriptRefused ≡ WriteFailed = sym e ∙ f in cc)) in
    let refused = c.in-Ok-answer.ensures.refused (sym (ap (λ r. r.0) w.0) ∙ e) in
    (c.in-Ok.bytes.items, ending.out.items, c.in-Ok.ensures.read, subst (λ (x : List ℕ). Refuses x ending.out.items) c.deref.ensures.value refused.0, w.1)

pub returns-in-Ok-answer-clause-done : goal.returns-in-Ok-answer-clause-done
returns-in-Ok-answer-clause-done g c e =
    let ending = c.in-Ok-answer.ending in
    let w = c.write_out.ensures.written (λ f. (let h : Done ≡ WriteFailed = sym e ∙ f in cc)) in
    let a = subst (λ (x : List ℕ). Answers c.args.options.trace x ending.out.items ending.kept) c.deref.ensures.value (c.in-Ok-answer.ensures.done (sym (ap (λ r. r.0) w.0) ∙ e)) in
    (c.in-Ok.bytes.items, ending.out.items, read_whole (g.S.Source.left c.args.source.now) (g.S.Source.left c.read_all.new.source) c.in-Ok.bytes.items c.in-Ok.ensures.read a.script.fits, subst (Answers c.args.options.trace c.in-Ok.bytes.items ending.out.items) (sym (ap (λ r. r.1) w.0)) a, w.1)

pub returns-in-Ok-answer-clause-write : goal.returns-in-Ok-answer-clause-write
returns-in-Ok-answer-clause-write g c e =
    let trace = c.args.options.trace in
    let ending = c.in-Ok-answer.ending in
    let bytes = c.in-Ok.bytes.items in
    let w = c.write_out.ensures.write e in
    let is : IsWritten trace bytes ending.out.items = elim c.in-Ok-answer.ensures.either as (λ _. IsWritten trace bytes ending.out.items) [
      | inl d ↦ inl (ending.kept, subst (λ (x : List ℕ). Answers trace x ending.out.items ending.kept) c.deref.ensures.value (c.in-Ok-answer.ensures.done d))
      | inr r ↦ inr (subst (λ (x : List ℕ). Refuses x ending.out.items) c.deref.ensures.value (c.in-Ok-answer.ensures.refused r).0)
    ] in
    (w.0, (bytes, ending.out.items, c.in-Ok.ensures.read, is, w.1))
