-- What the entry of the key becomes.
use Rattle.std.proofs.Common.{◌≡◌, ◌∙◌, ◌&&◌, ◌||◌, ap, sym, subst, cond, map, refl, List, Some, None, IsSome, OnOk}
use Rattle.std.specs.Arc.{arc_value}
use Rattle.std.specs.List.{list_any}
use Rattle.std.specs.Map.{lookup}
use Rattle.std.specs.Option.{option_copied_mut}
use Rattle.std.proofs.lemmas.Result.{on_ok_weaker, on_err_weaker}
use Rattle.versioned_graph.specs.Entries.{Stored, kept_of, entry_at, named, written, goes_in}
use Rattle.versioned_graph.specs.Edges.{is_edge}
use Rattle.versioned_graph.proofs.Maps.{entry-same, entry-taken, edges-taken}
use Rattle.versioned_graph.proofs.store.Store.put.Goals as goal

pub returns-in-Some-clause-ok : goal.returns-in-Some-clause-ok
returns-in-Some-clause-ok g c =
    let eq = g.U.Key.PartialEq.eq in
    let m = g.U.Universe.meaning in
    let veq = g.U.Value.PartialEq.eq in
    let k = arc_value c.args.key in
    let es = c.self.inside.entries.entries in
    let f = c.take_in.new.self in
    let known : lookup (λ y. eq k (arc_value y)) es ≡ Some c.in-Some.entry.now = sym c.get_mut.ensures.value ∙ ap option_copied_mut c.in-Some.is in
    let up = ((c.get_mut.follows.holds f).3 (subst IsSome (sym known) refl)).0 in
    subst (λ (s : List (g.row.U-Key.Denot × Stored g.row.U-Key.Denot g.row.U-Value.Denot)). OnOk c.take_in.result ((q : g.row.U-Key.Denot) → entry_at eq (map named (c.get_mut.follows.lender f).entries) q ≡ cond (eq k q) (Some (written m veq (entry_at eq s k) (kept_of c.args.next))) (entry_at eq s q))) c.self.view_is
    (on_ok_weaker c.take_in.result (λ h. entry-taken eq m veq k c.args.key es (c.get_mut.follows.lender f).entries (Some c.in-Some.entry.now) f c.args.next known up h) c.take_in.ensures.kept)

pub returns-in-Some-clause-edges : goal.returns-in-Some-clause-edges
returns-in-Some-clause-edges g c =
    let eq = g.U.Key.PartialEq.eq in
    let m = g.U.Universe.meaning in
    let veq = g.U.Value.PartialEq.eq in
    let k = arc_value c.args.key in
    let es = c.self.inside.entries.entries in
    let f = c.take_in.new.self in
    let known : lookup (λ y. eq k (arc_value y)) es ≡ Some c.in-Some.entry.now = sym c.get_mut.ensures.value ∙ ap option_copied_mut c.in-Some.is in
    let up = ((c.get_mut.follows.holds f).3 (subst IsSome (sym known) refl)).0 in
    subst (λ (s : List (g.row.U-Key.Denot × Stored g.row.U-Key.Denot g.row.U-Value.Denot)). OnOk c.take_in.result ((j q : g.row.U-Key.Denot) → is_edge eq (map named (c.get_mut.follows.lender f).entries) j q ≡ (is_edge eq s j q || (eq k q && (goes_in m veq (entry_at eq s k) (kept_of c.args.next) && list_any (eq j) c.args.next.deps))))) c.self.view_is
    (on_ok_weaker c.take_in.result (λ h. edges-taken eq m veq k c.args.key es (c.get_mut.follows.lender f).entries (Some c.in-Some.entry.now) f c.args.next known up c.laws_of.ensures.keys.same h) c.take_in.ensures.deps)

pub returns-in-Some-clause-err : goal.returns-in-Some-clause-err
returns-in-Some-clause-err g c =
    let eq = g.U.Key.PartialEq.eq in
    let k = arc_value c.args.key in
    let es = c.self.inside.entries.entries in
    let f = c.take_in.new.self in
    let known : lookup (λ y. eq k (arc_value y)) es ≡ Some c.in-Some.entry.now = sym c.get_mut.ensures.value ∙ ap option_copied_mut c.in-Some.is in
    on_err_weaker c.take_in.result (λ e. entry-same eq k es (c.get_mut.follows.lender f).entries c.in-Some.entry.now f known e (c.get_mut.follows.holds f).0 ∙ c.self.view_is) c.take_in.ensures.err

pub returns-clause-ok : goal.returns-clause-ok
returns-clause-ok g c =
    let eq = g.U.Key.PartialEq.eq in
    let m = g.U.Universe.meaning in
    let veq = g.U.Value.PartialEq.eq in
    let k = arc_value c.args.key in
    let us = c.get_mut.follows.lender-at-none.entries in
    let same = c.get_mut.follows.holds-at-none in
    let none : lookup (λ y. eq k (arc_value y)) us ≡ None = ap (λ b. lookup (λ y. eq k (arc_value y)) b.entries) same ∙ (sym c.get_mut.ensures.value ∙ ap option_copied_mut c.in_default.is) in
    subst (λ (s : List (g.row.U-Key.Denot × Stored g.row.U-Key.Denot g.row.U-Value.Denot)). (q : g.row.U-Key.Denot) → entry_at eq (map named c.insert.new.self.entries) q ≡ cond (eq k q) (Some (written m veq (entry_at eq s k) (kept_of c.args.next))) (entry_at eq s q))
    (ap (λ b. map named b.entries) same ∙ c.self.view_is)
    (entry-taken eq m veq k c.args.key us c.insert.new.self.entries None c.args.next c.args.next none c.in_ok-insert.ensures.updates.0 refl)

pub returns-clause-edges : goal.returns-clause-edges
returns-clause-edges g c =
    let eq = g.U.Key.PartialEq.eq in
    let m = g.U.Universe.meaning in
    let veq = g.U.Value.PartialEq.eq in
    let k = arc_value c.args.key in
    let us = c.get_mut.follows.lender-at-none.entries in
    let same = c.get_mut.follows.holds-at-none in
    let none : lookup (λ y. eq k (arc_value y)) us ≡ None = ap (λ b. lookup (λ y. eq k (arc_value y)) b.entries) same ∙ (sym c.get_mut.ensures.value ∙ ap option_copied_mut c.in_default.is) in
    subst (λ (s : List (g.row.U-Key.Denot × Stored g.row.U-Key.Denot g.row.U-Value.Denot)). (j q : g.row.U-Key.Denot) → is_edge eq (map named c.insert.new.self.entries) j q ≡ (is_edge eq s j q || (eq k q && (goes_in m veq (entry_at eq s k) (kept_of c.args.next) && list_any (eq j) c.args.next.deps))))
    (ap (λ b. map named b.entries) same ∙ c.self.view_is)
    (edges-taken eq m veq k c.args.key us c.insert.new.self.entries None c.args.next c.args.next none c.in_ok-insert.ensures.updates.0 c.laws_of.ensures.keys.same (λ j. refl))
