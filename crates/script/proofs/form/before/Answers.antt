use Rattle.script.proofs.WordLemmas.{passed, found, none_found}
use Rattle.script.proofs.form.before.Goals as goal

pub loop-i-preserved : goal.loop-i-preserved
loop-i-preserved c = passed c.args.mark c.args.bytes.now c.loop-i.i c.loop-i-test.true c.if-bytes-i.false c.loop-i.invariant

pub returns-clause-at : goal.returns-clause-at
returns-clause-at c = none_found c.args.mark c.args.bytes.now c.loop-i.i c.loop-i-test.false c.loop-i.auto.i-end c.loop-i.invariant

pub returns-then-bytes-i-clause-at : goal.returns-then-bytes-i-clause-at
returns-then-bytes-i-clause-at c = found c.args.mark c.args.bytes.now c.loop-i.i c.loop-i-test.true c.if-bytes-i.true c.loop-i.invariant
