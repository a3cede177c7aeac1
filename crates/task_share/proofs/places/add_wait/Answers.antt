use Rattle.std.proofs.Common.{◌≡◌, ◌<◌, ◌⊎◌, true, is_some, nat_eq, Some, refl, ap, ◌∙◌, subst, arith}
use Rattle.std.specs.Arc.{arc_value}
use Rattle.std.specs.List.{list_any}
use Rattle.std.specs.Map.{lookup}
use Rattle.std.proofs.lemmas.Option.{same_Some}
use Rattle.indexmap.specs.IndexMap.{set_value_at}
use Rattle.task_share.specs.Seen.{Share, takes_task, room_in, list_for, number_for}
use Rattle.task_share.specs.Listed.{share_of, names_of}
use Rattle.task_share.specs.declared.place.Place.{Place}
use Rattle.task_share.proofs.PlaceLemmas.{joined_wait, kept_listed, inserted_at, with_room}
use Rattle.task_share.proofs.NumberLemmas.{entry_of_value, has_at, written_at, changed_at, numbered_on, same_number, any_numbered, any_on, share_at, key_named}
use Rattle.task_share.proofs.places.add_wait.Goals as goal

pub returns-clause-listed : goal.returns-clause-listed
returns-clause-listed g c =
    let eq = g.K.PartialEq.eq in
    let law = c.requires.equality in
    let es = c.args.places.now.entries in
    let h = c.in-Some.place.now in
    let w : Place g.row.K.Denot g.row.T.Denot = record { task = h.task; live = h.live; promises = h.promises; askers = h.askers; waits = c.insert.new.self; name = h.name } in
    let e = entry_of_value es c.args.at h c.in-Some.ensures.value in
    let i = written_at eq law es (set_value_at es c.args.at w) c.args.at e.0 h w c.requires.linked.distinct e.1 refl in
    let names = names_of es in
    let same = same_number eq law es c.requires.linked.distinct in
    let before = c.requires.linked.waits (e.0, h) (has_at es c.args.at (e.0, h) e.1) in
    let named = key_named eq law es c.args.at e.0 h e.1 in
    let found = share_at eq law es c.args.at e.0 h (arc_value e.0) c.requires.linked.distinct e.1 named in
    let b : (is_some (lookup (nat_eq c.args.number) h.waits.entries) ≡ true) ⊎ (0 < h.waits.room) = subst (λ t. (t ≡ true) ⊎ (0 < h.waits.room)) (any_numbered eq law names same h.waits.entries c.args.number (arc_value c.args.asked) before c.requires.named)
    (with_room (takes_task (share_of h)) _ (h.waits.room) (subst (λ o. (list_any (eq (arc_value c.args.asked)) (list_for (λ (p : Share g.row.K.Denot g.row.T.Denot). p.waits) o) ≡ true) ⊎ (0 < number_for (room_in (λ (p : Share g.row.K.Denot g.row.T.Denot). p.wait_room)) o)) found (c.requires.room (arc_value e.0) named))) in
    let d = inserted_at c.insert.result (lookup (nat_eq c.args.number) h.waits.entries) (h.waits.room) _ c.insert.ensures.updates c.insert.ensures.absent c.insert.ensures.succeeds b in
    let after = numbered_on names h.waits.entries c.insert.new.self.entries c.args.number (Some c.args.asked) before c.insert.ensures.distinct d (λ a z. c.requires.named ∙ ap (λ x. Some (arc_value x)) (same_Some c.args.asked a z)) in
    let any = any_on eq law names same h.waits.entries c.insert.new.self.entries c.args.number (arc_value c.args.asked) (Some c.args.asked) before after c.requires.named d in
    kept_listed eq law e.0 es (set_value_at es c.args.at w) h w i refl refl (λ z. z) (λ r. r)

pub returns-clause-changed : goal.returns-clause-changed
returns-clause-changed g c =
    let eq = g.K.PartialEq.eq in
    let law = c.requires.equality in
    let es = c.args.places.now.entries in
    let h = c.in-Some.place.now in
    let w : Place g.row.K.Denot g.row.T.Denot = record { task = h.task; live = h.live; promises = h.promises; askers = h.askers; waits = c.insert.new.self; name = h.name } in
    let e = entry_of_value es c.args.at h c.in-Some.ensures.value in
    let i = written_at eq law es (set_value_at es c.args.at w) c.args.at e.0 h w c.requires.linked.distinct e.1 refl in
    let names = names_of es in
    let same = same_number eq law es c.requires.linked.distinct in
    let before = c.requires.linked.waits (e.0, h) (has_at es c.args.at (e.0, h) e.1) in
    let named = key_named eq law es c.args.at e.0 h e.1 in
    let found = share_at eq law es c.args.at e.0 h (arc_value e.0) c.requires.linked.distinct e.1 named in
    let b : (is_some (lookup (nat_eq c.args.number) h.waits.entries) ≡ true) ⊎ (0 < h.waits.room) = subst (λ t. (t ≡ true) ⊎ (0 < h.waits.room)) (any_numbered eq law names same h.waits.entries c.args.number (arc_value c.args.asked) before c.requires.named)
    (with_room (takes_task (share_of h)) _ (h.waits.room) (subst (λ o. (list_any (eq (arc_value c.args.asked)) (list_for (λ (p : Share g.row.K.Denot g.row.T.Denot). p.waits) o) ≡ true) ⊎ (0 < number_for (room_in (λ (p : Share g.row.K.Denot g.row.T.Denot). p.wait_room)) o)) found (c.requires.room (arc_value e.0) named))) in
    let d = inserted_at c.insert.result (lookup (nat_eq c.args.number) h.waits.entries) (h.waits.room) _ c.insert.ensures.updates c.insert.ensures.absent c.insert.ensures.succeeds b in
    let after = numbered_on names h.waits.entries c.insert.new.self.entries c.args.number (Some c.args.asked) before c.insert.ensures.distinct d (λ a z. c.requires.named ∙ ap (λ x. Some (arc_value x)) (same_Some c.args.asked a z)) in
    let any = any_on eq law names same h.waits.entries c.insert.new.self.entries c.args.number (arc_value c.args.asked) (Some c.args.asked) before after c.requires.named d in
    changed_at eq law es (set_value_at es c.args.at w) c.args.at e.0 h w _ c.requires.linked e.1 refl (λ n. n) (λ _. after)
    (record { task = refl; live = refl; asks = λ a. refl; waits = joined_wait eq (share_of h) (share_of w) (arc_value c.args.asked) any }, record { promises = omega arith; askers = omega arith; waits = omega (arith, c.insert.ensures.room); count = omega arith; stays = λ t. t })
