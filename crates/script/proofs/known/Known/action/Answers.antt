use Rattle.script.specs.Known.{past_of}
use Rattle.script.proofs.Taken.{action_taken}
use Rattle.script.proofs.known.Known.action.Goals as goal

pub returns-clause-taken : goal.returns-clause-taken
returns-clause-taken c =
    action_taken (past_of c.args.self.now) _ c.args.t.now c.args.name.now c.args.label.now c.args.behind.now c.in_ok-request.request c.in_ok-request.ensures.tested c.in_ok-request.ensures.noted
