use Rattle.std.proofs.Common.{arith, ◌≡◌, ◌∙◌, ◌≤◌, None, Some, ap, codes, refl, subst, sym}
use Rattle.std.proofs.lemmas.Option.{same_Some}
use Rattle.clap.specs.Words.{found_of}
use Rattle.dice_words.proofs.Commands.{flag_read, number_read}
use Rattle.dice_words.proofs.words.run_of.Goals as goal

pub returns-in_err-workers : goal.returns-in_err-workers
returns-in_err-workers c has =
    let read = number_read (codes "workers") 0 64 (found_of c.args.matches.now) c.get_one.result has.0 c.get_one.ensures.value (omega arith) in
    let bad : Some read.0 ≡ None = sym read.1 ∙ c.in_err-workers.was in
    cc

pub returns : goal.returns
returns c has =
    let f = found_of c.args.matches.now in
    let read = number_read (codes "workers") 0 64 f c.get_one.result has.0 c.get_one.ensures.value (omega arith) in
    let workers_is = same_Some read.0 c.in_ok-workers.workers (sym read.1 ∙ c.in_ok-workers.was) in
    let trace_is = flag_read (codes "trace") f c.get_flag-trace.result has.1 c.get_flag-trace.ensures.value c.get_flag-trace.ensures.other in
    ((refl, read.2 ∙ ap Some workers_is, trace_is), subst (λ n. n ≤ 64) workers_is read.4)
