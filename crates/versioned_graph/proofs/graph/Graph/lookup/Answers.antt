use Rattle.std.proofs.Common.{sym, subst}
use Rattle.versioned_graph.specs.Sound.{AreTrue}
use Rattle.versioned_graph.proofs.graph.Graph.lookup.Goals as goal

pub returns-clause-value : goal.returns-clause-value
returns-clause-value g c = λ C x base t l h. c.lookup.ensures.value C x base (subst (AreTrue g.U.Key.PartialEq.eq g.U.Universe.meaning C) (sym c.self.view_is) t) l h
