-- The entry of a key is cut.
use Rattle.std.proofs.Common.{◌≡◌, false, ap, sym, ◌∙◌, cond, Some, None, map, subst, refl, IsSome}
use Rattle.std.specs.Arc.{arc_value}
use Rattle.std.specs.Map.{lookup}
use Rattle.std.specs.Option.{option_map, option_copied_mut}
use Rattle.std.specs.List.{list_any}
use Rattle.versioned_graph.specs.Edges.{deps_of, is_edge}
use Rattle.versioned_graph.specs.Entries.{kept_of, entry_at, cut_at, named}
use Rattle.versioned_graph.proofs.Maps.{entry-named, entry-put, edge-named, edge-put, at_same}
use Rattle.versioned_graph.proofs.store.Store.cut.Goals as goal
use Rattle.versioned_graph.proofs.store.Store.cut.Goals.{in-Some, in_default}

pub returns-clause-entries : goal.returns-clause-entries
returns-clause-entries g c = λ q.
    let eq = g.U.Key.PartialEq.eq in
    let k = arc_value c.args.key.now in
    let v = c.args.version in
    let es = c.self.inside.entries.entries in
    elim c.match-get_mut.branch [
      | in-Some w ↦ (
          let e = w.in-Some.entry.now in
          let f = w.cut.new.self in
          let known : lookup (λ y. eq k (arc_value y)) es ≡ Some e = sym c.get_mut.ensures.value ∙ ap option_copied_mut w.in-Some.is in
          let some : IsSome (lookup (λ y. eq k (arc_value y)) es) = subst IsSome (sym known) refl in
          let old : Some (kept_of f) ≡ option_map (cut_at v) (entry_at eq (map named es) k) = ap Some w.cut.ensures.kept ∙ ap (option_map (cut_at v)) (sym (entry-named eq k es ∙ ap (option_map kept_of) known)) in
          ap (λ a. entry_at eq (map named a.entries.entries) q) w.self-inside-is
          ∙ (entry-put eq k c.args.key.now es (c.get_mut.follows.lender f).entries f (((c.get_mut.follows.holds f).3 some).0) q
          ∙ ((λ i. cond (eq k q) (old i) (entry_at eq (map named es) q))
          ∙ (λ i. cond (eq k q) (option_map (cut_at v) (entry_at eq (c.self.view_is i) k)) (entry_at eq (c.self.view_is i) q)))))
      | in_default w ↦ (
          let none : lookup (λ y. eq k (arc_value y)) es ≡ None = sym c.get_mut.ensures.value ∙ ap option_copied_mut w.in_default.is in
          let here : entry_at eq (map named es) k ≡ None = entry-named eq k es ∙ ap (option_map kept_of) none in
          ap (λ a. entry_at eq (map named a.entries.entries) q) w.self-inside-is
          ∙ (ap (λ m. entry_at eq (map named m.entries) q) c.get_mut.follows.holds-at-none
          ∙ (at_same eq c.laws_of.ensures.keys.same (entry_at eq (map named es)) k q (option_map (cut_at v) (entry_at eq (map named es) k)) (here ∙ sym (ap (option_map (cut_at v)) here))
          ∙ (λ i. cond (eq k q) (option_map (cut_at v) (entry_at eq (c.self.view_is i) k)) (entry_at eq (c.self.view_is i) q)))))
    ]

pub returns-clause-edges : goal.returns-clause-edges
returns-clause-edges g c = λ j q.
    let eq = g.U.Key.PartialEq.eq in
    let k = arc_value c.args.key.now in
    let es = c.self.inside.entries.entries in
    elim c.match-get_mut.branch [
      | in-Some w ↦ (
          let e = w.in-Some.entry.now in
          let f = w.cut.new.self in
          let known : lookup (λ y. eq k (arc_value y)) es ≡ Some e = sym c.get_mut.ensures.value ∙ ap option_copied_mut w.in-Some.is in
          let some : IsSome (lookup (λ y. eq k (arc_value y)) es) = subst IsSome (sym known) refl in
          ap (λ a. is_edge eq (map named a.entries.entries) j q) w.self-inside-is
          ∙ (edge-put eq k c.args.key.now es (c.get_mut.follows.lender f).entries f (((c.get_mut.follows.holds f).3 some).0) j q
          ∙ (ap (λ us. cond (eq k q) (list_any (eq j) us) (is_edge eq (map named es) j q)) w.cut.ensures.deps
          ∙ ap (λ fs. cond (eq k q) false (is_edge eq fs j q)) c.self.view_is)))
      | in_default w ↦ (
          let none : lookup (λ y. eq k (arc_value y)) es ≡ None = sym c.get_mut.ensures.value ∙ ap option_copied_mut w.in_default.is in
          let here : is_edge eq (map named es) j k ≡ false = edge-named eq j k es ∙ ap (λ o. deps_of eq o j) none in
          ap (λ a. is_edge eq (map named a.entries.entries) j q) w.self-inside-is
          ∙ (ap (λ m. is_edge eq (map named m.entries) j q) c.get_mut.follows.holds-at-none
          ∙ (at_same eq c.laws_of.ensures.keys.same (λ n. is_edge eq (map named es) j n) k q false here
          ∙ ap (λ fs. cond (eq k q) false (is_edge eq fs j q)) c.self.view_is)))
    ]
