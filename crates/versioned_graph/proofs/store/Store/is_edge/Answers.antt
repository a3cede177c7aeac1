use Rattle.std.proofs.Common.{◌∙◌}
use Rattle.std.specs.Arc.{arc_value}
use Rattle.versioned_graph.proofs.store.Store.is_edge.Goals as goal

pub returns-in-Some : goal.returns-in-Some
returns-in-Some g c = c.has_edge_from.ensures ∙ c.in-Some.ensures.edges (arc_value c.args.from.now)

pub returns-in-None : goal.returns-in-None
returns-in-None g c = c.in-None.ensures.edges (arc_value c.args.from.now)
