-- The history of the key is longer by one set.
use Rattle.std.proofs.Common.{◌≡◌, ◌<◌, ◌++◌, ◌∷◌, [], ◌∙◌, Some, IsSome, ap, sym, subst, refl, map, arith}
use Rattle.std.specs.Arc.{arc_value}
use Rattle.std.specs.Map.{lookup}
use Rattle.std.specs.Option.{option_copied_mut}
use Rattle.injected.specs.Seen.{named, sets_in}
use Rattle.injected.proofs.Maps.{writes_at, writes_as, cell_is, sets_known, room_known, room_unknown}
use Rattle.injected.proofs.store.push_set.Goals as goal

pub push-requires-clause-room : goal.push-requires-clause-room
push-requires-clause-room g c =
    let k = arc_value c.args.key.now in
    let es = c.args.histories.now.entries in
    let v = c.in-Some.history.now in
    let known : lookup (λ y. g.K.PartialEq.eq k (arc_value y)) es ≡ Some v = sym c.get_mut.ensures.value ∙ ap option_copied_mut c.in-Some.is in
    subst (λ n. 0 < n) (room_known g.K.PartialEq.eq k es v known) c.requires.room

pub unreachable-requires : goal.unreachable-requires
unreachable-requires g c =
    let k = arc_value c.args.key.now in
    let es = c.args.histories.now.entries in
    absurd (omega (arith, room_unknown g.K.PartialEq.eq k es (sym c.get_mut.ensures.value ∙ ap option_copied_mut c.in-None.is), c.requires.room))

pub returns : goal.returns
returns g c =
    let eq = g.K.PartialEq.eq in
    let k = arc_value c.args.key.now in
    let es = c.args.histories.now.entries in
    let v = c.in-Some.history.now in
    let f = c.push.new.self in
    let fs = (c.get_mut.follows.lender f).entries in
    let known : lookup (λ y. eq k (arc_value y)) es ≡ Some v = sym c.get_mut.ensures.value ∙ ap option_copied_mut c.in-Some.is in
    let added = (c.args.version, arc_value c.args.value) ∷ [] in
    let sets : f.sets ≡ sets_in (lookup (eq k) (map named es)) ++ added = c.push.ensures.sets ∙ ap (λ ss. ss ++ added) (sym (sets_known eq k es v known)) in
    (f.room, writes_as eq k (map named es) (map named fs) f _ (cell_is f f.room (sets_in (lookup (eq k) (map named es)) ++ added) refl sets) (writes_at eq k c.args.key.now es fs f ((c.get_mut.follows.holds f).3 (subst IsSome (sym known) refl)).0))
