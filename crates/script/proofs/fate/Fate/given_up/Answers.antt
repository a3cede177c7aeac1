use Rattle.std.proofs.Common.{rules}
use Rattle.script.proofs.fate.Fate.given_up.Goals as goal

pub returns-in-Answered : goal.returns-in-Answered
returns-in-Answered c = search rules
