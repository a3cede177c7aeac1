use Rattle.script.specs.Known.{past_of}
use Rattle.script.proofs.Taken.{drop_taken}
use Rattle.script.proofs.known.Known.drop_path.Goals as goal

pub returns-clause-taken : goal.returns-clause-taken
returns-clause-taken c = drop_taken (past_of c.args.self.now) _ c.args.path.now c.in_ok-path.path c.args.behind.now c.in_ok-path.ensures.tested c.in_ok-path.ensures.noted
