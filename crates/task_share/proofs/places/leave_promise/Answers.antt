use Rattle.std.proofs.Common.{◌≡◌, map, Some, None, refl, sym, ap, ◌∙◌, subst, arith}
use Rattle.std.specs.Prelude.{IsSome}
use Rattle.std.specs.Arc.{arc_value}
use Rattle.std.specs.Map.{lookup}
use Rattle.std.specs.Option.{option_copied_mut}
use Rattle.std.specs.Vec.{vec_capacity}
use Rattle.task_share.specs.Listed.{IsLinked, names_of, AreNumbered, share_of, shares_of, IsListed}
use Rattle.task_share.specs.declared.place.Place.{Place}
use Rattle.task_share.proofs.NumberLemmas.{linked_set}
use Rattle.task_share.proofs.PlaceLemmas.{IsWritten, changed_none, changed_written, written_listed, has_room, left_promise, settled_takes, runs_at}
use Rattle.task_share.proofs.places.leave_promise.Goals as goal

pub returns-in_default-clause-changed : goal.returns-in_default-clause-changed
returns-in_default-clause-changed g c =
    let eq = g.K.PartialEq.eq in
    let key = c.args.key.now in
    let e : lookup (λ a. eq (arc_value key) (arc_value a)) c.args.places.now.entries ≡ None = sym c.get_mut.ensures.value ∙ ap option_copied_mut c.in_default.is in
    changed_none eq c.requires.equality c.args.places.now.entries c.get_mut.follows.lender-at-none.entries (arc_value key) _ (ap (λ m. m.entries) c.get_mut.follows.holds-at-none) e

pub settle-requires : goal.settle-requires
settle-requires g c = λ e. has_room g.K.PartialEq.eq c.requires.equality c.args.key.now c.args.places.now.entries c.args.candidates.now.items (vec_capacity c.args.candidates.now) c.in-Some.place.now c.requires.listed (sym c.get_mut.ensures.value ∙ ap option_copied_mut c.in-Some.is) e

pub returns-clause-listed : goal.returns-clause-listed
returns-clause-listed g c =
    let eq = g.K.PartialEq.eq in
    let key = c.args.key.now in
    let h = c.in-Some.place.now in
    let w : Place g.row.K.Denot g.row.T.Denot = c.settle.new.place in
    let known : lookup (λ a. eq (arc_value key) (arc_value a)) c.args.places.now.entries ≡ Some h = sym c.get_mut.ensures.value ∙ ap option_copied_mut c.in-Some.is in
    let o = c.get_mut.follows.holds w in
    let u = o.3 (subst IsSome (sym known) refl) in
    let i : IsWritten eq key c.args.places.now.entries (c.get_mut.follows.lender w).entries h w = record { known = known; set = o.0; here = u.1; others = u.2 } in
    let mid : Place g.row.K.Denot g.row.T.Denot = record { task = h.task; live = h.live; promises = c.swap_remove.new.self; askers = h.askers; waits = h.waits; name = h.name } in
    subst (IsListed eq (shares_of (c.get_mut.follows.lender w).entries) (map arc_value c.settle.new.candidates.items)) (sym c.settle.ensures.room)
    (written_listed eq c.requires.equality key c.args.places.now.entries (c.get_mut.follows.lender w).entries c.args.candidates.now.items c.settle.new.candidates.items (vec_capacity c.args.candidates.now) h w (share_of mid) i c.requires.listed refl (λ t. t) (λ _ t. t) (λ r. r) c.settle.ensures.place c.settle.ensures.candidates)

pub returns-clause-changed : goal.returns-clause-changed
returns-clause-changed g c =
    let eq = g.K.PartialEq.eq in
    let key = c.args.key.now in
    let h = c.in-Some.place.now in
    let w : Place g.row.K.Denot g.row.T.Denot = c.settle.new.place in
    let known : lookup (λ a. eq (arc_value key) (arc_value a)) c.args.places.now.entries ≡ Some h = sym c.get_mut.ensures.value ∙ ap option_copied_mut c.in-Some.is in
    let o = c.get_mut.follows.holds w in
    let u = o.3 (subst IsSome (sym known) refl) in
    let i : IsWritten eq key c.args.places.now.entries (c.get_mut.follows.lender w).entries h w = record { known = known; set = o.0; here = u.1; others = u.2 } in
    let mid : Place g.row.K.Denot g.row.T.Denot = record { task = h.task; live = h.live; promises = c.swap_remove.new.self; askers = h.askers; waits = h.waits; name = h.name } in
    changed_written eq c.requires.equality key c.args.places.now.entries (c.get_mut.follows.lender w).entries h w _ i
    (rw c.settle.ensures.place (record { task = refl; live = refl; asks = left_promise eq (share_of h) (share_of mid) c.args.number refl (λ q. c.swap_remove.ensures.updates q); waits = λ d. refl }, record { promises = omega (arith, c.swap_remove.ensures.room); askers = omega arith; waits = omega arith; count = omega arith; stays = settled_takes (share_of mid) (runs_at eq c.requires.equality key c.args.places.now.entries (map arc_value c.args.candidates.now.items) (vec_capacity c.args.candidates.now) h c.requires.listed known) }))

pub returns-clause-linked : goal.returns-clause-linked
returns-clause-linked g c =
    let eq = g.K.PartialEq.eq in
    let key = c.args.key.now in
    let h = c.in-Some.place.now in
    let w : Place g.row.K.Denot g.row.T.Denot = c.settle.new.place in
    let known : lookup (λ a. eq (arc_value key) (arc_value a)) c.args.places.now.entries ≡ Some h = sym c.get_mut.ensures.value ∙ ap option_copied_mut c.in-Some.is in
    let o = c.get_mut.follows.holds w in
    let u = o.3 (subst IsSome (sym known) refl) in
    let i : IsWritten eq key c.args.places.now.entries (c.get_mut.follows.lender w).entries h w = record { known = known; set = o.0; here = u.1; others = u.2 } in
    linked_set eq (λ a. eq (arc_value key) (arc_value a)) c.args.places.now.entries (c.get_mut.follows.lender w).entries h w c.requires.linked i.set known (λ n. subst (λ m. AreNumbered (names_of c.args.places.now.entries) m.entries) (sym c.settle.ensures.askers) n) (λ n. subst (λ m. AreNumbered (names_of c.args.places.now.entries) m.entries) (sym c.settle.ensures.waits) n)

pub returns-in_default-clause-linked : goal.returns-in_default-clause-linked
returns-in_default-clause-linked g c = subst (λ m. IsLinked g.K.PartialEq.eq m.entries) (sym c.get_mut.follows.holds-at-none) c.requires.linked
