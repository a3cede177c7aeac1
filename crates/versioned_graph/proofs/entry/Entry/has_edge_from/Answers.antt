use Rattle.std.proofs.Common.{sym, ap, ◌∙◌}
use Rattle.std.specs.Arc.{arc_value}
use Rattle.std.specs.List.{list_any}
use Rattle.versioned_graph.proofs.Sets.{any_map}
use Rattle.versioned_graph.proofs.entry.Entry.has_edge_from.Goals as goal

pub returns : goal.returns
returns g c =
    let eq = g.U.Key.PartialEq.eq in
    let j = arc_value c.args.from.now in
    c.contains.ensures ∙ (sym (any_map eq j c.self.inside.deps) ∙ ap (λ s. list_any (eq j) s.deps) c.self.view_is)
