use Rattle.std.proofs.Common.{sym}
use Rattle.script.proofs.WordLemmas.{too_many}
use Rattle.script.proofs.form.with_operands.Goals as goal

pub returns-in-Some-split : goal.returns-in-Some-split
returns-in-Some-split c = sym (too_many c.args.word.now c.args.a.now c.in-Some.b.now c.in-Some-split.field-0.0.now c.args.rest.now c.in-Some.rest.now c.in-Some-split.field-0.1.now c.in-Some.ensures.some c.in-Some-split.ensures.some)
