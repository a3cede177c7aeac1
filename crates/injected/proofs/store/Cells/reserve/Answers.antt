-- Room changes, and that of the key alone.
use Rattle.std.proofs.Common.{◌≡◌, false, OnErr, ap, subst, arith, List, map}
use Rattle.std.specs.Arc.{arc_value}
use Rattle.injected.specs.Seen.{Cell, Seen, named, sets_at, room_at}
use Rattle.injected.proofs.Orders.{kept_order, roomy_sets, roomy_others, roomy_ok, roomy_err}
use Rattle.injected.proofs.store.Cells.reserve.Goals as goal

pub invariant_of-self : goal.invariant_of-self
invariant_of-self g c =
    let eq = g.U.Key.PartialEq.eq in
    let es : List (g.row.U-Key.Denot × Cell g.row.U-Value.Denot) = map named c.self.inside.histories.entries in
    let fs : List (g.row.U-Key.Denot × Cell g.row.U-Value.Denot) = map named c.make_room.new.histories.entries in
    kept_order eq record { cells = es; last = c.self.inside.last } record { cells = fs; last = c.self.inside.last } c.self.invariant
    (roomy_sets eq c.laws_of.ensures.keys.same c.laws_of.ensures.keys.itself es fs (arc_value c.args.key) c.make_room.result c.make_room.ensures.ok c.make_room.ensures.err) (omega arith)

pub returns : goal.returns
returns g c =
    let eq = g.U.Key.PartialEq.eq in
    let k = arc_value c.args.key in
    let same = c.laws_of.ensures.keys.same in
    let itself = c.laws_of.ensures.keys.itself in
    let es : List (g.row.U-Key.Denot × Cell g.row.U-Value.Denot) = map named c.self.inside.histories.entries in
    let fs : List (g.row.U-Key.Denot × Cell g.row.U-Value.Denot) = map named c.make_room.new.histories.entries in
    let t : Seen g.row.U-Key.Denot g.row.U-Value.Denot = record { cells = fs; last = c.self.inside.last } in
    record {
      ok = roomy_ok eq same itself es fs k c.make_room.result c.make_room.ensures.ok c.make_room.ensures.err;
      sets = subst (λ s. (q : g.row.U-Key.Denot) → sets_at eq t q ≡ sets_at eq s q) c.self.view_is (roomy_sets eq same itself es fs k c.make_room.result c.make_room.ensures.ok c.make_room.ensures.err);
      last = ap (λ (s : Seen g.row.U-Key.Denot g.row.U-Value.Denot). s.last) c.self.view_is;
      others = subst (λ s. (q : g.row.U-Key.Denot) → eq k q ≡ false → room_at eq t q ≡ room_at eq s q) c.self.view_is (roomy_others eq same itself es fs k c.make_room.result c.make_room.ensures.ok c.make_room.ensures.err);
      err = subst (λ s. OnErr c.make_room.result ((q : g.row.U-Key.Denot) → room_at eq t q ≡ room_at eq s q)) c.self.view_is (roomy_err eq same itself es fs k c.make_room.result c.make_room.ensures.ok c.make_room.ensures.err);
    }
