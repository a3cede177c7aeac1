-- The keys of both sets.
use Rattle.std.proofs.Common.{◌||◌, sym, ap, ◌∙◌}
use Rattle.std.specs.List.{list_any}
use Rattle.versioned_graph.proofs.Sets.{any_map}
use Rattle.versioned_graph.proofs.entry.Entry.with_edges_of.Goals as goal

pub returns-clause-deps : goal.returns-clause-deps
returns-clause-deps g c = λ j.
    let eq = g.U.Key.PartialEq.eq in
    let a = sym (any_map eq j c.earlier.inside.deps) ∙ ap (λ s. list_any (eq j) s.deps) c.earlier.view_is in
    let b = sym (any_map eq j c.entry.inside.deps) ∙ ap (λ s. list_any (eq j) s.deps) c.entry.view_is in
    any_map eq j c.add_all.new.keys ∙ (c.in_ok-add_all.ensures j ∙ (λ i. a i || b i))
