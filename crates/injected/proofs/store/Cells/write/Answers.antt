-- One set more of the key.
use Rattle.std.proofs.Common.{◌≡◌, ◌<◌, ◌++◌, ◌∷◌, ◌∙◌, [], false, cond, max, ap, sym, subst, refl, List, map}
use Rattle.std.specs.Arc.{arc_value}
use Rattle.injected.specs.History.{AllBelow}
use Rattle.injected.specs.Seen.{Cell, Seen, named, sets_at, room_at, sets_in}
use Rattle.injected.proofs.Orders.{pushed_order, sets_pushed, room_others}
use Rattle.std.specs.Map.{lookup}
use Rattle.injected.proofs.store.Cells.write.Goals as goal

pub push_set-requires : goal.push_set-requires
push_set-requires g c = record {
  laws = c.laws_of.ensures.values;
  room = subst (λ s. 0 < room_at g.U.Key.PartialEq.eq s (arc_value c.args.key.now)) (sym c.self.view_is) c.requires.room;
}

pub invariant_of-self : goal.invariant_of-self
invariant_of-self g c =
    let eq = g.U.Key.PartialEq.eq in
    let k = arc_value c.args.key.now in
    let same = c.laws_of.ensures.keys.same in
    let es : List (g.row.U-Key.Denot × Cell g.row.U-Value.Denot) = map named c.self.inside.histories.entries in
    let fs : List (g.row.U-Key.Denot × Cell g.row.U-Value.Denot) = map named c.push_set.new.histories.entries in
    let x = arc_value c.args.value in
    pushed_order eq record { cells = es; last = c.self.inside.last } record { cells = fs; last = c.max-self-inside.result } same c.self.invariant k c.args.version x
    (subst (λ s. AllBelow (sets_at eq s k) c.args.version) (sym c.self.view_is) c.requires.rises)
    (sets_pushed eq same es fs k record { room = c.push_set.ensures.0; sets = sets_in (lookup (eq k) es) ++ (c.args.version, x) ∷ [] } (c.args.version, x) refl c.push_set.ensures.1) c.max-self-inside.ensures

pub returns : goal.returns
returns g c =
    let eq = g.U.Key.PartialEq.eq in
    let k = arc_value c.args.key.now in
    let same = c.laws_of.ensures.keys.same in
    let es : List (g.row.U-Key.Denot × Cell g.row.U-Value.Denot) = map named c.self.inside.histories.entries in
    let fs : List (g.row.U-Key.Denot × Cell g.row.U-Value.Denot) = map named c.push_set.new.histories.entries in
    let x = arc_value c.args.value in
    let t : Seen g.row.U-Key.Denot g.row.U-Value.Denot = record { cells = fs; last = c.max-self-inside.result } in
    record {
      sets = subst (λ s. (q : g.row.U-Key.Denot) → sets_at eq t q ≡ cond (eq k q) (sets_at eq s q ++ (c.args.version, x) ∷ []) (sets_at eq s q)) c.self.view_is
          (sets_pushed eq same es fs k record { room = c.push_set.ensures.0; sets = sets_in (lookup (eq k) es) ++ (c.args.version, x) ∷ [] } (c.args.version, x) refl c.push_set.ensures.1);
      last = c.max-self-inside.ensures ∙ ap (λ (s : Seen g.row.U-Key.Denot g.row.U-Value.Denot). max s.last c.args.version) c.self.view_is;
      others = subst (λ s. (q : g.row.U-Key.Denot) → eq k q ≡ false → room_at eq t q ≡ room_at eq s q) c.self.view_is
          (room_others eq same es fs k record { room = c.push_set.ensures.0; sets = sets_in (lookup (eq k) es) ++ (c.args.version, x) ∷ [] } c.push_set.ensures.1);
    }
