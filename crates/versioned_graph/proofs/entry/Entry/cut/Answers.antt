use Rattle.std.proofs.Common.{rules}
use Rattle.versioned_graph.proofs.entry.Entry.cut.Goals as goal

pub returns-clause-kept : goal.returns-clause-kept
returns-clause-kept g c = search rules

pub returns-clause-deps : goal.returns-clause-deps
returns-clause-deps g c = search rules
