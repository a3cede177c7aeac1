use Rattle.std.proofs.Common.{rules}
use Rattle.script.proofs.known.Known.fate_of.Goals as goal

pub returns-in-Some-false : goal.returns-in-Some-false
returns-in-Some-false c = search rules

pub returns-in_default : goal.returns-in_default
returns-in_default c = search rules
