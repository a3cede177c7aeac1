-- What a commit reaches is cut.
use Rattle.std.proofs.Common.{[], cond, map, sym, ap, ◌∙◌, subst, List}
use Rattle.std.specs.Arc.{arc_value}
use Rattle.versioned_graph.specs.Users.{users_of}
use Rattle.versioned_graph.specs.Entries.{Stored}
use Rattle.versioned_graph.specs.Edges.{IsCut}
use Rattle.versioned_graph.specs.Sound.{AreTrue}
use Rattle.versioned_graph.proofs.CutLemmas.{is_cut, cut_stands, still_indexed}
use Rattle.versioned_graph.proofs.Traced.{cut_traced, none_from_reached}
use Rattle.versioned_graph.proofs.graph.Graph.commit.Goals as goal
use Rattle.lists.specs.Lists.{Has}

pub returns-clause-cut : goal.returns-clause-cut
returns-clause-cut g c =
    let eq = g.U.Key.PartialEq.eq in
    let ks = map arc_value c.args.changed.now in
    subst (λ (s : List (g.row.U-Key.Denot × Stored g.row.U-Key.Denot g.row.U-Value.Denot)). IsCut eq s ks c.args.version c.cut_reached.new.store) c.self.view_is
    (is_cut eq c.laws_of.ensures.keys c.self.inside.store ks (map arc_value c.in_ok-reached.reached.items) c.in_ok-reached.ensures.all c.in_ok-reached.ensures.only c.args.version c.cut_reached.new.store
    (rw (ap (map arc_value) c.deref.ensures.value) at c.cut_reached.ensures.cut))

pub returns-clause-kept : goal.returns-clause-kept
returns-clause-kept g c = λ C d v covers t.
    let eq = g.U.Key.PartialEq.eq in
    let m = g.U.Universe.meaning in
    cut_stands eq c.laws_of.ensures.keys c.self.inside.store (map arc_value c.args.changed.now) (map arc_value c.in_ok-reached.reached.items) c.in_ok-reached.ensures.all c.in_ok-reached.ensures.only
    m c.laws_of.ensures.lawful C d covers c.args.version c.cut_reached.new.store v (rw (ap (map arc_value) c.deref.ensures.value) at c.cut_reached.ensures.cut)
    (subst (AreTrue eq m C) (sym c.self.view_is) t)

pub returns-clause-unused : goal.returns-clause-unused
returns-clause-unused g c = none_from_reached g.U.Key.PartialEq.eq c.args.self.now c.cut_reached.new.store (map arc_value c.args.changed.now) c.args.version (returns-clause-cut g c)

pub returns-clause-traced : goal.returns-clause-traced
returns-clause-traced g c = cut_traced g.U.Key.PartialEq.eq c.args.self.now c.cut_reached.new.store (map arc_value c.args.changed.now) c.args.version (returns-clause-cut g c) g.U.Universe.meaning

pub invariant_of-self : goal.invariant_of-self
invariant_of-self g c =
    let eq = g.U.Key.PartialEq.eq in
    still_indexed eq c.laws_of.ensures.keys c.self.inside.store (map arc_value c.args.changed.now) (map arc_value c.in_ok-reached.reached.items) c.in_ok-reached.ensures.all c.in_ok-reached.ensures.only
    c.args.version c.cut_reached.new.store c.self.inside.users c.cut_reached.new.users (rw (ap (map arc_value) c.deref.ensures.value) at c.cut_reached.ensures.cut) c.self.invariant
    (λ j q f h. subst (λ l. Has l q) (sym ((rw (ap (map arc_value) c.deref.ensures.value) at c.cut_reached.ensures.users) j ∙ ap (λ b. cond b [] (users_of g.U.Key.PartialEq.eq c.self.inside.users j)) f)) h)
