use Rattle.script_trace.proofs.Traces.{one_journal}
use Rattle.script_trace.proofs.laws.traces_are_one.Goals as goal

pub returns : goal.returns
returns c = one_journal
