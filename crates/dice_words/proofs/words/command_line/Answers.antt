use Rattle.std.proofs.Common.{◌≡◌, ◌∙◌, ap, ap₂}
use Rattle.std.proofs.lemmas.Result.{IfOk-weaker}
use Rattle.clap.specs.Words.{App, app_of, with_subcommand}
use Rattle.dice_words.specs.Accepted.{dice_alone, run}
use Rattle.dice_words.proofs.words.command_line.Goals as goal

pub returns : goal.returns
returns c =
    let with_run : app_of c.in_ok-subcommand.field-0 ≡ with_subcommand dice_alone run.top = c.in_ok-subcommand.ensures.shape c.in_ok-run.ensures.local ∙ ap₂ with_subcommand c.dice_command.ensures.shape (ap (λ (a : App). a.top) c.in_ok-run.ensures.shape) in
    IfOk-weaker c.subcommand-2.result _ _ (λ r h. h.shape c.in_ok-bulk.ensures.local ∙ ap₂ with_subcommand with_run (ap (λ (a : App). a.top) c.in_ok-bulk.ensures.shape)) c.subcommand-2.ensures
