use Rattle.std.proofs.Common.{◌≡◌, ◌∙◌, ◌||◌, ◌&&◌, inl, inr, map, ℕ, sym, cond, List, Some, subst}
use Rattle.std.specs.Arc.{arc_value}
use Rattle.injected.specs.Seen.{cell_at}
use Rattle.version_ranges.specs.Members.{contains, is_open}
use Rattle.versioned_graph.specs.Entries.{Stored, entry_at, marked, finished, goes_in, written}
use Rattle.versioned_graph.specs.Edges.{Records, is_edge, is_asked}
use Rattle.std.specs.List.{list_any}
use Rattle.versioned_graph.specs.Users.{users_of}
use Rattle.versioned_graph.proofs.Sets.{any_map}
use Rattle.versioned_graph.proofs.FinishLemmas.{made, finish_true, others_tailed}
use Rattle.versioned_graph.proofs.Holding.{true_with}
use Rattle.versioned_graph.proofs.Traced.{finish_traced}
use Rattle.versioned_graph.proofs.graph.Graph.finish.Goals as goal
use Rattle.lists.specs.Lists.{Has}
use Rattle.std.proofs.lemmas.Bool.{and_parts, or_cases}

pub returns-clause-ok : goal.returns-clause-ok
returns-clause-ok g c =
    let eq = g.U.Key.PartialEq.eq in
    let m = g.U.Universe.meaning in
    let veq = g.U.Value.PartialEq.eq in
    let at = cell_at eq m c.args.cells.now in
    let es = c.self.inside.store in
    let k = arc_value c.args.key in
    let n = made m veq at (entry_at eq es) c.args.version c.in_ok-ranges.ranges (arc_value c.args.value) c.deref.result.now (arc_value c.args.trace) c.deref-2.result.now c.deref.ensures c.deref-2.ensures c.in_ok-ranges.ensures in
    subst (λ (s : List (g.row.U-Key.Denot × Stored g.row.U-Key.Denot g.row.U-Value.Denot)). (q : g.row.U-Key.Denot) → entry_at eq c.put.new.self q ≡ cond (eq k q) (Some (written m veq (entry_at eq s k) (finished m veq at (entry_at eq s) c.args.version (arc_value c.args.value) (arc_value c.args.trace)))) (entry_at eq s q)) c.self.view_is
    (λ q. c.in_ok-put.ensures.ok q ∙ (λ i. cond (eq k q) (Some (written m veq (entry_at eq es k) (n i))) (entry_at eq es q)))

pub returns-clause-edges : goal.returns-clause-edges
returns-clause-edges g c =
    let eq = g.U.Key.PartialEq.eq in
    let m = g.U.Universe.meaning in
    let veq = g.U.Value.PartialEq.eq in
    let at = cell_at eq m c.args.cells.now in
    let es = c.self.inside.store in
    let k = arc_value c.args.key in
    let A = arc_value c.args.trace in
    let r = c.in_ok-ranges.ranges in
    let ranges : (w : ℕ) → contains r w ≡ marked m veq at (entry_at eq es) c.args.version (arc_value c.args.value) A w = λ w. c.in_ok-ranges.ensures w ∙ (λ i. marked m veq at (entry_at eq es) c.args.version (c.deref.ensures i) (c.deref-2.ensures i) w) in
    let n = made m veq at (entry_at eq es) c.args.version r (arc_value c.args.value) c.deref.result.now A c.deref-2.result.now c.deref.ensures c.deref-2.ensures c.in_ok-ranges.ensures in
    let tail = c.open_has_a_tail.ensures in
    subst (λ (s : List (g.row.U-Key.Denot × Stored g.row.U-Key.Denot g.row.U-Value.Denot)). Records eq m veq k (finished m veq at (entry_at eq s) c.args.version (arc_value c.args.value) A) s c.put.new.self) c.self.view_is
    (record {
      opened = is_open r;
      is_open = (λ o. (let t = tail.0 o in (t.0, λ w l. sym (ranges w) ∙ t.1 w l)), λ t. tail.1 (t.0, λ w l. ranges w ∙ t.1 w l));
      edges = λ j q. c.in_ok-put.ensures.edges j q ∙ (λ i. is_edge eq es j q || (eq k q && (goes_in m veq (entry_at eq es k) (n i) && ((any_map eq j c.in_ok-deps.deps ∙ (c.in_ok-deps.ensures.keys j ∙ (λ l. is_open r && is_asked eq (c.deref-3.ensures l) j))) i))));
    })

pub returns-clause-kept : goal.returns-clause-kept
returns-clause-kept g c C holds within trace t =
    let eq = g.U.Key.PartialEq.eq in
    let m = g.U.Universe.meaning in
    let veq = g.U.Value.PartialEq.eq in
    let at = cell_at eq m c.args.cells.now in
    let es = c.args.self.now in
    let fs = c.put.new.self in
    let k = arc_value c.args.key in
    let v = c.args.version in
    let x = arc_value c.args.value in
    let A = arc_value c.args.trace in
    let n = finished m veq at (entry_at eq es) v x A in
    let keys = c.laws_of.ensures.keys in
    let law = c.laws_of.ensures.lawful in
    let same = c.laws_of.ensures.values.same in
    true_with eq m C keys.same k (Some (written m veq (entry_at eq es k) n)) es fs (returns-clause-ok g c)
    (finish_true eq keys m law veq same C at holds es fs t k v x A within trace (returns-clause-edges g c))
    (others_tailed eq keys m law veq same C at holds es fs t k v x A within trace (returns-clause-edges g c))

pub returns-clause-traced : goal.returns-clause-traced
returns-clause-traced g c C w trace t =
    let eq = g.U.Key.PartialEq.eq in
    let m = g.U.Universe.meaning in
    let veq = g.U.Value.PartialEq.eq in
    let es = c.args.self.now in
    let n = finished m veq (cell_at eq m c.args.cells.now) (entry_at eq es) c.args.version (arc_value c.args.value) (arc_value c.args.trace) in
    finish_traced eq c.laws_of.ensures.keys.same m C veq c.laws_of.ensures.values.same (arc_value c.args.key) n es c.put.new.self w (returns-clause-ok g c) trace t

pub invariant_of-self-2 : goal.invariant_of-self-2
invariant_of-self-2 g c = λ j q e.
    let eq = g.U.Key.PartialEq.eq in
    let k = arc_value c.args.key in
    elim (or_cases (is_edge eq c.self.inside.store j q) _ (sym (c.in_ok-put.ensures.edges j q) ∙ e)) as (λ _. Has (users_of eq c.link_open.new.users j) q) [
      | inl h ↦ c.in_ok-deps.ensures.stay j q (c.self.invariant j q h)
      | inr h ↦ (
          let b = and_parts (eq k q) _ h in
          let d = and_parts _ (list_any (eq j) (map arc_value c.in_ok-deps.deps)) b.1 in
          subst (Has (users_of eq c.link_open.new.users j)) (c.laws_of.ensures.keys.same k q b.0) (c.in_ok-deps.ensures.there j (sym (any_map eq j c.in_ok-deps.deps) ∙ d.1)))
    ]
