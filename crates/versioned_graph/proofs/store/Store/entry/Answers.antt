use Rattle.std.proofs.Common.{ap, sym, ◌∙◌}
use Rattle.std.specs.Arc.{arc_value}
use Rattle.std.specs.Option.{option_map}
use Rattle.versioned_graph.specs.Entries.{kept_of, entry_at}
use Rattle.versioned_graph.specs.Edges.{deps_of, is_edge}
use Rattle.versioned_graph.proofs.Maps.{entry-named, edge-named, copied}
use Rattle.versioned_graph.proofs.store.Store.entry.Goals as goal

pub returns-clause-entry : goal.returns-clause-entry
returns-clause-entry g c =
    let eq = g.U.Key.PartialEq.eq in
    let k = arc_value c.args.key.now in
    copied c.get.result ∙ (ap (option_map kept_of) c.get.ensures.value ∙ (sym (entry-named eq k c.self.inside.entries.entries) ∙ ap (λ es. entry_at eq es k) c.self.view_is))

pub returns-clause-edges : goal.returns-clause-edges
returns-clause-edges g c = λ j.
    let eq = g.U.Key.PartialEq.eq in
    let k = arc_value c.args.key.now in
    ap (λ o. deps_of eq o j) c.get.ensures.value ∙ (sym (edge-named eq j k c.self.inside.entries.entries) ∙ ap (λ es. is_edge eq es j k) c.self.view_is)
