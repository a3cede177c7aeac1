-- What is to do first are the changed keys.
use Rattle.std.proofs.Common.{List, map, subst}
use Rattle.std.specs.Arc.{arc_value}
use Rattle.versioned_graph.specs.Edges.{CommitReaches}
use Rattle.versioned_graph.proofs.reach.reached.Goals as goal
use Rattle.lists.specs.Lists.{Has}

pub returns-clause-all : goal.returns-clause-all
returns-clause-all g c = subst (λ (ks : List g.row.U-Key.Denot). (q : g.row.U-Key.Denot) → CommitReaches g.U.Key.PartialEq.eq c.args.store.now ks q → Has (map arc_value c.walk.new.reached.items) q) c.in_ok-todo.ensures c.in_ok-walk.ensures.all

pub returns-clause-only : goal.returns-clause-only
returns-clause-only g c = subst (λ (ks : List g.row.U-Key.Denot). (q : g.row.U-Key.Denot) → Has (map arc_value c.walk.new.reached.items) q → CommitReaches g.U.Key.PartialEq.eq c.args.store.now ks q) c.in_ok-todo.ensures c.in_ok-walk.ensures.only
