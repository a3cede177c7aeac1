use Rattle.script.specs.Past.{nothing}
use Rattle.script.proofs.Laws.{one_script, one_line, no_both}
use Rattle.script.proofs.script.readings_are_one.Goals as goal

pub returns-clause-script : goal.returns-clause-script
returns-clause-script c = λ text ls ms h k. one_script c.printed_is_read.ensures.only nothing text ls ms h.lines k.lines

pub returns-clause-fault : goal.returns-clause-fault
returns-clause-fault c = one_line c.printed_is_read.ensures.only

pub returns-clause-not_both : goal.returns-clause-not_both
returns-clause-not_both c = λ text ls n w h k. no_both c.printed_is_read.ensures.only nothing text ls k.left w h.lines k.fault
