use Rattle.std.proofs.Common.{◌≡◌, ◌<◌, ◌⊎◌, nat_eq, eq-eqb, true, cond, Some, None, refl, sym, ap, ◌∙◌, subst, arith}
use Rattle.std.specs.Prelude.{IsSome}
use Rattle.std.specs.Arc.{arc_value}
use Rattle.std.specs.Map.{lookup}
use Rattle.std.specs.List.{list_any}
use Rattle.std.specs.Option.{option_map}
use Rattle.std.specs.Option.{option_copied_mut}
use Rattle.task_share.specs.Asked.{Promised}
use Rattle.task_share.specs.Seen.{Share, takes_task, room_in, has_by, is_for, number_for}
use Rattle.task_share.specs.Listed.{IsLinked, share_of}
use Rattle.task_share.specs.declared.place.Place.{Place}
use Rattle.task_share.proofs.NumberLemmas.{linked_set}
use Rattle.task_share.proofs.PlaceLemmas.{lookup_shares, IsWritten, changed_none, changed_written, joined_promise, kept_listed, kept_none, inserted, asked_busy, with_room}
use Rattle.task_share.proofs.places.add_promise.Goals as goal

pub returns-in_default-clause-listed : goal.returns-in_default-clause-listed
returns-in_default-clause-listed g c = kept_none g.K.PartialEq.eq c.requires.equality c.args.places.now.entries c.get_mut.follows.lender-at-none.entries (ap (λ m. m.entries) c.get_mut.follows.holds-at-none)

pub returns-in_default-clause-changed : goal.returns-in_default-clause-changed
returns-in_default-clause-changed g c =
    let eq = g.K.PartialEq.eq in
    let key = c.args.key.now in
    let e : lookup (λ a. eq (arc_value key) (arc_value a)) c.args.places.now.entries ≡ None = sym c.get_mut.ensures.value ∙ ap option_copied_mut c.in_default.is in
    changed_none eq c.requires.equality c.args.places.now.entries c.get_mut.follows.lender-at-none.entries (arc_value key) _ (ap (λ m. m.entries) c.get_mut.follows.holds-at-none) e

pub returns-clause-listed : goal.returns-clause-listed
returns-clause-listed g c =
    let eq = g.K.PartialEq.eq in
    let key = c.args.key.now in
    let h = c.in-Some.place.now in
    let w : Place g.row.K.Denot g.row.T.Denot = record { task = h.task; live = h.live; promises = c.insert.new.self; askers = h.askers; waits = h.waits; name = h.name } in
    let known : lookup (λ a. eq (arc_value key) (arc_value a)) c.args.places.now.entries ≡ Some h = sym c.get_mut.ensures.value ∙ ap option_copied_mut c.in-Some.is in
    let o = c.get_mut.follows.holds w in
    let u = o.3 (subst IsSome (sym known) refl) in
    let i : IsWritten eq key c.args.places.now.entries (c.get_mut.follows.lender w).entries h w = record { known = known; set = o.0; here = u.1; others = u.2 } in
    let found = lookup_shares (eq (arc_value key)) c.args.places.now.entries ∙ ap (option_map share_of) known in
    let b : (list_any (nat_eq c.args.number) h.promises.keys ≡ true) ⊎ (0 < h.promises.room) = with_room (takes_task (share_of h)) _ h.promises.room (subst (λ o. (is_for (λ (p : Share g.row.K.Denot g.row.T.Denot). has_by eq p (Promised c.args.number)) o ≡ true) ⊎ (0 < number_for (room_in (λ (p : Share g.row.K.Denot g.row.T.Denot). p.promise_room)) o)) found c.requires.room) in
    let d = inserted c.insert.result (list_any (nat_eq c.args.number) h.promises.keys) h.promises.room _ c.insert.ensures.updates c.insert.ensures.absent c.insert.ensures.succeeds b in
    kept_listed eq c.requires.equality key c.args.places.now.entries (c.get_mut.follows.lender w).entries h w i refl refl (λ e. absurd (asked_busy eq c.requires.equality (share_of w) (Promised c.args.number) (d c.args.number ∙ ap (λ t. cond t true (list_any (nat_eq c.args.number) h.promises.keys)) (eq-eqb c.args.number c.args.number refl)) e)) (λ r. r)

pub returns-clause-changed : goal.returns-clause-changed
returns-clause-changed g c =
    let eq = g.K.PartialEq.eq in
    let key = c.args.key.now in
    let h = c.in-Some.place.now in
    let w : Place g.row.K.Denot g.row.T.Denot = record { task = h.task; live = h.live; promises = c.insert.new.self; askers = h.askers; waits = h.waits; name = h.name } in
    let known : lookup (λ a. eq (arc_value key) (arc_value a)) c.args.places.now.entries ≡ Some h = sym c.get_mut.ensures.value ∙ ap option_copied_mut c.in-Some.is in
    let o = c.get_mut.follows.holds w in
    let u = o.3 (subst IsSome (sym known) refl) in
    let i : IsWritten eq key c.args.places.now.entries (c.get_mut.follows.lender w).entries h w = record { known = known; set = o.0; here = u.1; others = u.2 } in
    let found = lookup_shares (eq (arc_value key)) c.args.places.now.entries ∙ ap (option_map share_of) known in
    let b : (list_any (nat_eq c.args.number) h.promises.keys ≡ true) ⊎ (0 < h.promises.room) = with_room (takes_task (share_of h)) _ h.promises.room (subst (λ o. (is_for (λ (p : Share g.row.K.Denot g.row.T.Denot). has_by eq p (Promised c.args.number)) o ≡ true) ⊎ (0 < number_for (room_in (λ (p : Share g.row.K.Denot g.row.T.Denot). p.promise_room)) o)) found c.requires.room) in
    let d = inserted c.insert.result (list_any (nat_eq c.args.number) h.promises.keys) h.promises.room _ c.insert.ensures.updates c.insert.ensures.absent c.insert.ensures.succeeds b in
    changed_written eq c.requires.equality key c.args.places.now.entries (c.get_mut.follows.lender w).entries h w _ i (record { task = refl; live = refl; asks = joined_promise eq (share_of h) (share_of w) c.args.number refl (λ q. d q); waits = λ d. refl }, record { promises = omega (arith, c.insert.ensures.room); askers = omega arith; waits = omega arith; count = omega arith; stays = λ t. t })

pub returns-clause-linked : goal.returns-clause-linked
returns-clause-linked g c =
    let eq = g.K.PartialEq.eq in
    let key = c.args.key.now in
    let h = c.in-Some.place.now in
    let w : Place g.row.K.Denot g.row.T.Denot = record { task = h.task; live = h.live; promises = c.insert.new.self; askers = h.askers; waits = h.waits; name = h.name } in
    let known : lookup (λ a. eq (arc_value key) (arc_value a)) c.args.places.now.entries ≡ Some h = sym c.get_mut.ensures.value ∙ ap option_copied_mut c.in-Some.is in
    let o = c.get_mut.follows.holds w in
    let u = o.3 (subst IsSome (sym known) refl) in
    let i : IsWritten eq key c.args.places.now.entries (c.get_mut.follows.lender w).entries h w = record { known = known; set = o.0; here = u.1; others = u.2 } in
    linked_set eq (λ a. eq (arc_value key) (arc_value a)) c.args.places.now.entries (c.get_mut.follows.lender w).entries h w c.requires.linked i.set known (λ n. n) (λ n. n)

pub returns-in_default-clause-linked : goal.returns-in_default-clause-linked
returns-in_default-clause-linked g c = subst (λ m. IsLinked g.K.PartialEq.eq m.entries) (sym c.get_mut.follows.holds-at-none) c.requires.linked
