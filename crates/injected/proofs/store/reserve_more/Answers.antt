-- The sets of the key are as before.
use Rattle.std.proofs.Common.{◌≡◌, ◌∙◌, Some, IsSome, ap, sym, subst, refl, map}
use Rattle.std.specs.Arc.{arc_value}
use Rattle.std.specs.Map.{lookup}
use Rattle.std.specs.Option.{option_copied_mut}
use Rattle.std.proofs.lemmas.Result.{on_ok_weaker, on_err_weaker}
use Rattle.injected.specs.Seen.{named, sets_in}
use Rattle.injected.proofs.Maps.{writes_at, writes_as, cell_is, sets_known, same_entries, is_known}
use Rattle.injected.proofs.store.reserve_more.Goals as goal

pub unreachable-requires : goal.unreachable-requires
unreachable-requires g c = is_known g.K.PartialEq.eq (arc_value c.args.key.now) c.args.histories.now.entries (sym c.get_mut.ensures.value ∙ ap option_copied_mut c.in-None.is) c.requires.there

pub returns-clause-err : goal.returns-clause-err
returns-clause-err g c =
    let eq = g.K.PartialEq.eq in
    let k = arc_value c.args.key.now in
    let es = c.args.histories.now.entries in
    let v = c.in-Some.history.now in
    let f = c.reserve.new.self in
    let known : lookup (λ y. eq k (arc_value y)) es ≡ Some v = sym c.get_mut.ensures.value ∙ ap option_copied_mut c.in-Some.is in
    on_err_weaker c.reserve.result (λ e. same_entries eq k es (c.get_mut.follows.lender f).entries v f known e (c.get_mut.follows.holds f).0) c.reserve.ensures.err

pub returns-clause-ok : goal.returns-clause-ok
returns-clause-ok g c =
    let eq = g.K.PartialEq.eq in
    let k = arc_value c.args.key.now in
    let es = c.args.histories.now.entries in
    let v = c.in-Some.history.now in
    let f = c.reserve.new.self in
    let fs = (c.get_mut.follows.lender f).entries in
    let known : lookup (λ y. eq k (arc_value y)) es ≡ Some v = sym c.get_mut.ensures.value ∙ ap option_copied_mut c.in-Some.is in
    let sets : f.sets ≡ sets_in (lookup (eq k) (map named es)) = c.reserve.ensures.sets ∙ sym (sets_known eq k es v known) in
    let written = writes_as eq k (map named es) (map named fs) f _ (cell_is f f.room (sets_in (lookup (eq k) (map named es))) refl sets) (writes_at eq k c.args.key.now es fs f ((c.get_mut.follows.holds f).3 (subst IsSome (sym known) refl)).0) in
    on_ok_weaker c.reserve.result (λ r. (f.room, r, written)) c.reserve.ensures.room
