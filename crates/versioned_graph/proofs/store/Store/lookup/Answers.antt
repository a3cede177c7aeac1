use Rattle.std.proofs.Common.{sym, ◌∙◌}
use Rattle.std.specs.Arc.{arc_value}
use Rattle.versioned_graph.specs.Entries.{kept_of}
use Rattle.versioned_graph.proofs.Holding.{matches_value}
use Rattle.versioned_graph.proofs.store.Store.lookup.Goals as goal

pub returns-in-Some-clause-value : goal.returns-in-Some-clause-value
returns-in-Some-clause-value g c C x base t l h =
    matches_value g.U.Key.PartialEq.eq g.U.Universe.meaning C c.args.self.now (arc_value c.args.key.now) (kept_of c.in-Some.entry.now) c.args.version x base t (sym c.in-Some.ensures.entry) l (sym c.look.ensures ∙ h)
