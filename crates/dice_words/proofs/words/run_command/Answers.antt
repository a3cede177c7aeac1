use Rattle.std.proofs.Common.{◌≡◌, ◌∙◌, rules, ap₂, codes}
use Rattle.std.proofs.lemmas.Result.{IfOk-weaker}
use Rattle.clap.specs.Words.{app_of, new_app, with_rule}
use Rattle.dice_words.proofs.words.run_command.Goals as goal

pub returns-clause-shape : goal.returns-clause-shape
returns-clause-shape c =
    let named : app_of c.about.result ≡ new_app (codes "run") = search rules in
    IfOk-weaker c.arg-2.result _ _ (λ r h. h.shape c.trace_flag.ensures.local ∙ ap₂ with_rule (c.in_ok-arg.ensures.shape c.workers_option.ensures.local ∙ ap₂ with_rule named c.workers_option.ensures.rule) c.trace_flag.ensures.rule) c.arg-2.ensures

pub returns-clause-local : goal.returns-clause-local
returns-clause-local c = IfOk-weaker c.arg-2.result _ _ (λ r h. search rules) c.arg-2.ensures
