-- The entry is joined as the definition says.
use Rattle.std.proofs.Common.{map, true, false, refl, ◌∙◌, ap}
use Rattle.std.specs.Arc.{arc_value}
use Rattle.std.proofs.lemmas.Bool.{le-leb}
use Rattle.versioned_graph.specs.Entries.{kept_of, joined}
use Rattle.versioned_graph.proofs.Maps.{joined_made, not_le}
use Rattle.versioned_graph.proofs.entry.Entry.join.Goals as goal

pub returns-then-self-next-clause-kept : goal.returns-then-self-next-clause-kept
returns-then-self-next-clause-kept g c =
    let m = g.U.Universe.meaning in
    let veq = g.U.Value.PartialEq.eq in
    let e = c.self.inside in
    let n = c.next.inside in
    joined_made m veq (record { value = arc_value e.value; trace = arc_value e.trace; ranges = e.ranges; version = e.version; deps = map arc_value e.deps }) (record { value = arc_value n.value; trace = arc_value n.trace; ranges = n.ranges; version = n.version; deps = map arc_value n.deps }) (arc_value e.value) (arc_value e.trace) c.add.new.ranges e.version false (not_le _ _ c.if-self-next.true) refl refl c.in_ok-add.ensures.ok refl
    ∙ ((λ i. joined m veq (kept_of (c.self.view_is i)) (kept_of (c.next.view_is i)))
    ∙ ap (joined m veq (kept_of c.args.self.now)) c.in_ok-next.ensures.kept)

pub returns-clause-kept : goal.returns-clause-kept
returns-clause-kept g c =
    let m = g.U.Universe.meaning in
    let veq = g.U.Value.PartialEq.eq in
    let e = c.self.inside in
    let n = c.next.inside in
    joined_made m veq (record { value = arc_value e.value; trace = arc_value e.trace; ranges = e.ranges; version = e.version; deps = map arc_value e.deps }) (record { value = arc_value n.value; trace = arc_value n.trace; ranges = n.ranges; version = n.version; deps = map arc_value n.deps }) (arc_value e.value) (arc_value c.swap-2.new.x) c.add.new.ranges n.version true (le-leb _ _ c.if-self-next.false) refl (ap arc_value c.swap-2.ensures.x_after) c.in_ok-add.ensures.ok refl
    ∙ ((λ i. joined m veq (kept_of (c.self.view_is i)) (kept_of (c.next.view_is i)))
    ∙ ap (joined m veq (kept_of c.args.self.now)) c.in_ok-next.ensures.kept)
