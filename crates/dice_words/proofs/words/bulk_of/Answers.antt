use Rattle.std.proofs.Common.{arith, ◌≡◌, ◌∙◌, ◌≤◌, None, Some, ap, codes, refl, subst, sym}
use Rattle.std.proofs.lemmas.Option.{same_Some}
use Rattle.clap.specs.Words.{found_of}
use Rattle.dice_words.proofs.Commands.{number_read}
use Rattle.dice_words.proofs.words.bulk_of.Goals as goal

pub returns-in_err-targets : goal.returns-in_err-targets
returns-in_err-targets c has =
    let read = number_read (codes "targets") 1 10000 (found_of c.args.matches.now) c.get_one.result has.0 c.get_one.ensures.value (omega arith) in
    let bad : Some read.0 ≡ None = sym read.1 ∙ c.in_err-targets.was in
    cc

pub returns-in_err-workers : goal.returns-in_err-workers
returns-in_err-workers c has =
    let read = number_read (codes "workers") 0 64 (found_of c.args.matches.now) c.get_one-2.result has.1 c.get_one-2.ensures.value (omega arith) in
    let bad : Some read.0 ≡ None = sym read.1 ∙ c.in_err-workers.was in
    cc

pub returns : goal.returns
returns c has =
    let f = found_of c.args.matches.now in
    let first = number_read (codes "targets") 1 10000 f c.get_one.result has.0 c.get_one.ensures.value (omega arith) in
    let second = number_read (codes "workers") 0 64 f c.get_one-2.result has.1 c.get_one-2.ensures.value (omega arith) in
    let targets_is = same_Some first.0 c.in_ok-targets.targets (sym first.1 ∙ c.in_ok-targets.was) in
    let workers_is = same_Some second.0 c.in_ok-workers.workers (sym second.1 ∙ c.in_ok-workers.was) in
    ((refl, first.2 ∙ ap Some targets_is, second.2 ∙ ap Some workers_is), (subst (λ n. 1 ≤ n) targets_is first.3, subst (λ n. n ≤ 10000) targets_is first.4, subst (λ n. n ≤ 64) workers_is second.4))
