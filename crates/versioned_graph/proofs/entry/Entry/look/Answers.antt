use Rattle.std.proofs.Common.{rules}
use Rattle.versioned_graph.proofs.entry.Entry.look.Goals as goal

pub returns-then-known : goal.returns-then-known
returns-then-known g c = search rules
