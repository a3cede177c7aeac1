use Rattle.std.proofs.Common.{ap, sym, ◌∙◌, subst}
use Rattle.std.specs.Arc.{arc_value}
use Rattle.versioned_graph.specs.Entries.{entry_at}
use Rattle.versioned_graph.specs.Sound.{AreTrue, AreTracedAt}
use Rattle.versioned_graph.proofs.Traced.{seen_traced}
use Rattle.versioned_graph.proofs.graph.Graph.seen.Goals as goal

pub returns-clause-kept : goal.returns-clause-kept
returns-clause-kept g c = λ C e t l h r.
    let eq = g.U.Key.PartialEq.eq in
    c.seen.ensures.kept C e (subst (AreTrue eq g.U.Universe.meaning C) (sym c.self.view_is) t) l (ap (λ es. entry_at eq es (arc_value c.args.key.now)) c.self.view_is ∙ h) r

pub returns-clause-traced : goal.returns-clause-traced
returns-clause-traced g c = λ C w t.
    let eq = g.U.Key.PartialEq.eq in
    let m = g.U.Universe.meaning in
    seen_traced eq c.laws_of.ensures.keys.same m C (arc_value c.args.key.now) c.args.version c.self.inside.store _ w c.seen.ensures.entries (subst (AreTracedAt eq m C w) (sym c.self.view_is) t)
