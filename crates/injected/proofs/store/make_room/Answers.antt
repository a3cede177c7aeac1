-- A key that is not there gets an empty history with room for a set.
use Rattle.std.proofs.Common.{◌≡◌, ◌∙◌, None, Some, true, Option, IsSome, sym, refl, map, is_some}
use Rattle.std.specs.Arc.{arc_value}
use Rattle.std.specs.Map.{lookup}
use Rattle.injected.specs.Seen.{named, sets_in}
use Rattle.injected.proofs.Maps.{writes_at, writes_as, cell_is, sets_unknown, some_known}
use Rattle.injected.proofs.store.make_room.Goals as goal
use Rattle.lists.proofs.Options.{is_missing}

some_of : {X : Type 0} (o : Option X) → is_some o ≡ true → IsSome o
some_of None e = cc
some_of (Some x) e = refl

pub reserve_more-requires-clause-there : goal.reserve_more-requires-clause-there
reserve_more-requires-clause-there g c =
    let eq = g.K.PartialEq.eq in
    let k = arc_value c.args.key in
    let found : is_some (lookup (λ y. eq k (arc_value y)) c.args.histories.now.entries) ≡ true = sym c.contains_key.ensures ∙ c.if-contains_key.true in
    some_known eq k c.args.histories.now.entries (some_of (lookup (λ y. eq k (arc_value y)) c.args.histories.now.entries) found)

pub returns-clause-ok : goal.returns-clause-ok
returns-clause-ok g c =
    let eq = g.K.PartialEq.eq in
    let k = arc_value c.args.key in
    let es = c.args.histories.now.entries in
    let fs = c.insert.new.self.entries in
    let f = c.new-history.result in
    let none : lookup (λ y. eq k (arc_value y)) es ≡ None = is_missing (lookup (λ y. eq k (arc_value y)) es) (sym c.contains_key.ensures ∙ c.if-contains_key.false) in
    let sets : f.sets ≡ sets_in (lookup (eq k) (map named es)) = c.new-history.ensures.sets ∙ sym (sets_unknown eq k es none) in (
      f.room,
      c.new-history.ensures.room,
      writes_as eq k (map named es) (map named fs) f _ (cell_is f f.room (sets_in (lookup (eq k) (map named es))) refl sets) (writes_at eq k c.args.key es fs f c.in_ok-insert.ensures.updates.0),
    )
