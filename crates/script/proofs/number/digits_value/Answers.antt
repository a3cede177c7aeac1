use Rattle.script.proofs.NumberLemmas.{too_great}
use Rattle.script.proofs.number.digits_value.Goals as goal

pub returns-then-value-gt-MOST_BYTES-clause-none : goal.returns-then-value-gt-MOST_BYTES-clause-none
returns-then-value-gt-MOST_BYTES-clause-none c = λ a f. too_great c.args.digits.now c.loop-digit.digit-index c.loop-digit.value c.loop-digit-test.true c.loop-digit.invariant.number c.if-value-gt-MOST_BYTES.true f
