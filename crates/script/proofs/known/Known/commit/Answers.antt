use Rattle.std.proofs.Common.{ap}
use Rattle.script.specs.Past.{Texts}
use Rattle.script.specs.Known.{past_of}
use Rattle.script.proofs.Taken.{commit_taken}
use Rattle.script.proofs.known.Known.commit.Goals as goal

pub returns-clause-taken : goal.returns-clause-taken
returns-clause-taken c =
    commit_taken (past_of c.args.self.now) _ c.args.behind.now (ap (λ (s : Texts). record (past_of c.args.self.now) { touched = s }) c.clear.ensures)
