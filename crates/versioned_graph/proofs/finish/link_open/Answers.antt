use Rattle.std.proofs.Common.{rules}
use Rattle.versioned_graph.proofs.finish.link_open.Goals as goal

pub returns-then-opened-clause-keys : goal.returns-then-opened-clause-keys
returns-then-opened-clause-keys g c = search rules
