use Rattle.std.proofs.Common.{◌≡◌, ◌<◌, ◌⊎◌, true, cond, map, is_some, nat_eq, Some, refl, ap, ◌∙◌, subst, arith}
use Rattle.std.specs.Arc.{arc_value}
use Rattle.std.specs.List.{list_any}
use Rattle.std.specs.Map.{lookup, values_of}
use Rattle.std.proofs.lemmas.Option.{same_Some}
use Rattle.indexmap.specs.IndexMap.{set_value_at}
use Rattle.task_share.specs.Asked.{Tasked}
use Rattle.task_share.specs.Seen.{Share, takes_task, room_in, has_by, is_for, number_for}
use Rattle.task_share.specs.Listed.{share_of, names_of}
use Rattle.task_share.specs.declared.place.Place.{Place}
use Rattle.task_share.proofs.PlaceLemmas.{joined_task, more_count, kept_listed, inserted_at, with_room, asked_busy}
use Rattle.task_share.proofs.NumberLemmas.{entry_of_value, has_at, written_at, changed_at, numbered_on, same_number, any_numbered, any_on, share_at, key_named}
use Rattle.task_share.proofs.places.add_asker.Goals as goal

pub returns-clause-listed : goal.returns-clause-listed
returns-clause-listed g c =
    let eq = g.K.PartialEq.eq in
    let law = c.requires.equality in
    let es = c.args.places.now.entries in
    let h = c.in-Some.place.now in
    let w : Place g.row.K.Denot g.row.T.Denot = record { task = h.task; live = h.live; promises = h.promises; askers = c.insert.new.self; waits = h.waits; name = h.name } in
    let e = entry_of_value es c.args.at h c.in-Some.ensures.value in
    let i = written_at eq law es (set_value_at es c.args.at w) c.args.at e.0 h w c.requires.linked.distinct e.1 refl in
    let names = names_of es in
    let same = same_number eq law es c.requires.linked.distinct in
    let before = c.requires.linked.askers (e.0, h) (has_at es c.args.at (e.0, h) e.1) in
    let named = key_named eq law es c.args.at e.0 h e.1 in
    let found = share_at eq law es c.args.at e.0 h (arc_value e.0) c.requires.linked.distinct e.1 named in
    let b : (is_some (lookup (nat_eq c.args.number) h.askers.entries) ≡ true) ⊎ (0 < h.askers.room) = subst (λ t. (t ≡ true) ⊎ (0 < h.askers.room)) (any_numbered eq law names same h.askers.entries c.args.number (arc_value c.args.asker) before c.requires.named)
    (with_room (takes_task (share_of h)) _ (h.askers.room) (subst (λ o. (is_for (λ (p : Share g.row.K.Denot g.row.T.Denot). has_by eq p (Tasked (arc_value c.args.asker))) o ≡ true) ⊎ (0 < number_for (room_in (λ (p : Share g.row.K.Denot g.row.T.Denot). p.asker_room)) o)) found (c.requires.room (arc_value e.0) named))) in
    let d = inserted_at c.insert.result (lookup (nat_eq c.args.number) h.askers.entries) (h.askers.room) _ c.insert.ensures.updates c.insert.ensures.absent c.insert.ensures.succeeds b in
    let after = numbered_on names h.askers.entries c.insert.new.self.entries c.args.number (Some c.args.asker) before c.insert.ensures.distinct d (λ a z. c.requires.named ∙ ap (λ x. Some (arc_value x)) (same_Some c.args.asker a z)) in
    let any = any_on eq law names same h.askers.entries c.insert.new.self.entries c.args.number (arc_value c.args.asker) (Some c.args.asker) before after c.requires.named d in
    kept_listed eq law e.0 es (set_value_at es c.args.at w) h w i refl refl (λ z. absurd (asked_busy eq law (share_of w) (Tasked (arc_value c.args.asker)) (any (arc_value c.args.asker) ∙ ap (λ t. cond t true (list_any (eq (arc_value c.args.asker)) (map arc_value (values_of h.askers.entries)))) (law.itself (arc_value c.args.asker))) z)) (λ r. r)

pub returns-clause-changed : goal.returns-clause-changed
returns-clause-changed g c =
    let eq = g.K.PartialEq.eq in
    let law = c.requires.equality in
    let es = c.args.places.now.entries in
    let h = c.in-Some.place.now in
    let w : Place g.row.K.Denot g.row.T.Denot = record { task = h.task; live = h.live; promises = h.promises; askers = c.insert.new.self; waits = h.waits; name = h.name } in
    let e = entry_of_value es c.args.at h c.in-Some.ensures.value in
    let i = written_at eq law es (set_value_at es c.args.at w) c.args.at e.0 h w c.requires.linked.distinct e.1 refl in
    let names = names_of es in
    let same = same_number eq law es c.requires.linked.distinct in
    let before = c.requires.linked.askers (e.0, h) (has_at es c.args.at (e.0, h) e.1) in
    let named = key_named eq law es c.args.at e.0 h e.1 in
    let found = share_at eq law es c.args.at e.0 h (arc_value e.0) c.requires.linked.distinct e.1 named in
    let b : (is_some (lookup (nat_eq c.args.number) h.askers.entries) ≡ true) ⊎ (0 < h.askers.room) = subst (λ t. (t ≡ true) ⊎ (0 < h.askers.room)) (any_numbered eq law names same h.askers.entries c.args.number (arc_value c.args.asker) before c.requires.named)
    (with_room (takes_task (share_of h)) _ (h.askers.room) (subst (λ o. (is_for (λ (p : Share g.row.K.Denot g.row.T.Denot). has_by eq p (Tasked (arc_value c.args.asker))) o ≡ true) ⊎ (0 < number_for (room_in (λ (p : Share g.row.K.Denot g.row.T.Denot). p.asker_room)) o)) found (c.requires.room (arc_value e.0) named))) in
    let d = inserted_at c.insert.result (lookup (nat_eq c.args.number) h.askers.entries) (h.askers.room) _ c.insert.ensures.updates c.insert.ensures.absent c.insert.ensures.succeeds b in
    let after = numbered_on names h.askers.entries c.insert.new.self.entries c.args.number (Some c.args.asker) before c.insert.ensures.distinct d (λ a z. c.requires.named ∙ ap (λ x. Some (arc_value x)) (same_Some c.args.asker a z)) in
    let any = any_on eq law names same h.askers.entries c.insert.new.self.entries c.args.number (arc_value c.args.asker) (Some c.args.asker) before after c.requires.named d in
    changed_at eq law es (set_value_at es c.args.at w) c.args.at e.0 h w _ c.requires.linked e.1 refl (λ _. after) (λ n. n)
    (record { task = refl; live = refl; asks = joined_task eq (share_of h) (share_of w) (arc_value c.args.asker) refl any; waits = λ d. refl }, record { promises = omega arith; askers = omega (arith, c.insert.ensures.room); waits = omega arith; count = more_count c.insert.result h.askers.entries c.insert.new.self.entries c.insert.ensures.len c.insert.ensures.err; stays = λ t. t })
