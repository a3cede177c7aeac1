use Rattle.std.proofs.Common.{◌∙◌, ◌<◌, sym, length, arith}
use Rattle.script.proofs.WordLemmas.{split_found, only_word}
use Rattle.script.proofs.form.split.Goals as goal

pub returns-then-at-bytes-clause-none : goal.returns-then-at-bytes-clause-none
returns-then-at-bytes-clause-none c = only_word c.args.bytes.now (sym c.before-at.ensures.at ∙ c.if-at-bytes.true)

pub returns-clause-some : goal.returns-clause-some
returns-clause-some c = let h : c.before-at.result < length c.args.bytes.now = omega arith in split_found c.args.bytes.now _ c.before-at.ensures.at h
