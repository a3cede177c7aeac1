use Rattle.std.proofs.Common.{rules}
use Rattle.versioned_graph.proofs.marks.known_by_entry.Goals as goal

pub returns-in-Some : goal.returns-in-Some
returns-in-Some g c = search rules
