use Rattle.std.proofs.Common.{map, is_some, None, refl, sym, subst, arith}
use Rattle.std.specs.Arc.{arc_value}
use Rattle.std.specs.Vec.{vec_capacity}
use Rattle.std.proofs.lemmas.Option.{none-some}
use Rattle.indexmap.specs.IndexMap.{set_value_at}
use Rattle.task_share.specs.Listed.{share_of, shares_of, names_of, AreNumbered, IsListed}
use Rattle.task_share.specs.declared.place.Place.{Place}
use Rattle.task_share.proofs.PlaceLemmas.{written_listed, has_room, left_task, fewer_count, settled_takes, runs_at}
use Rattle.task_share.proofs.NumberLemmas.{entry_of_value, has_at, written_at, lookup_at, changed_at, numbered_on, same_number, any_on, linked_set, names_at_set}
use Rattle.task_share.proofs.places.leave_task.Goals as goal

pub settle-requires : goal.settle-requires
settle-requires g c = λ n.
    let eq = g.K.PartialEq.eq in
    let es = c.args.places.now.entries in
    let e = entry_of_value es c.args.at c.in-Some.place.now c.in-Some.ensures.value in
    has_room eq c.requires.equality e.0 es c.args.candidates.now.items (vec_capacity c.args.candidates.now) c.in-Some.place.now c.requires.listed (lookup_at eq c.requires.equality es c.args.at (e.0, c.in-Some.place.now) c.requires.linked.distinct e.1) n

pub returns-clause-listed : goal.returns-clause-listed
returns-clause-listed g c =
    let eq = g.K.PartialEq.eq in
    let law = c.requires.equality in
    let es = c.args.places.now.entries in
    let h = c.in-Some.place.now in
    let w : Place g.row.K.Denot g.row.T.Denot = c.settle.new.place in
    let e = entry_of_value es c.args.at h c.in-Some.ensures.value in
    let i = written_at eq law es (set_value_at es c.args.at w) c.args.at e.0 h w c.requires.linked.distinct e.1 refl in
    let mid : Place g.row.K.Denot g.row.T.Denot = record { task = h.task; live = h.live; promises = h.promises; askers = c.swap_remove.new.self; waits = h.waits; name = h.name } in
    subst (IsListed eq (shares_of (set_value_at es c.args.at w)) (map arc_value c.settle.new.candidates.items)) (sym c.settle.ensures.room)
    (written_listed eq law e.0 es (set_value_at es c.args.at w) c.args.candidates.now.items c.settle.new.candidates.items (vec_capacity c.args.candidates.now) h w (share_of mid) i c.requires.listed refl (λ t. t) (λ _ t. t) (λ r. r) c.settle.ensures.place c.settle.ensures.candidates)

pub returns-clause-changed : goal.returns-clause-changed
returns-clause-changed g c = λ j named.
    let eq = g.K.PartialEq.eq in
    let law = c.requires.equality in
    let es = c.args.places.now.entries in
    let h = c.in-Some.place.now in
    let w : Place g.row.K.Denot g.row.T.Denot = c.settle.new.place in
    let e = entry_of_value es c.args.at h c.in-Some.ensures.value in
    let i = written_at eq law es (set_value_at es c.args.at w) c.args.at e.0 h w c.requires.linked.distinct e.1 refl in
    let mid : Place g.row.K.Denot g.row.T.Denot = record { task = h.task; live = h.live; promises = h.promises; askers = c.swap_remove.new.self; waits = h.waits; name = h.name } in
    let names = names_of es in
    let before = c.requires.linked.askers (e.0, h) (has_at es c.args.at (e.0, h) e.1) in
    let after = numbered_on names h.askers.entries c.swap_remove.new.self.entries c.args.asker None before c.swap_remove.ensures.distinct (λ m. c.swap_remove.ensures.updates m) (λ a z. absurd (none-some a z)) in
    let same = same_number eq law es c.requires.linked.distinct in
    changed_at eq law es (set_value_at es c.args.at w) c.args.at e.0 h w _ c.requires.linked e.1 refl (λ _. subst (λ m. AreNumbered names m.entries) (sym c.settle.ensures.askers) after) (λ n. subst (λ m. AreNumbered (names_of es) m.entries) (sym c.settle.ensures.waits) n)
    (rw c.settle.ensures.place (record { task = refl; live = refl; asks = left_task eq (share_of h) (share_of mid) j refl (any_on eq law names same h.askers.entries c.swap_remove.new.self.entries c.args.asker j None before after named (λ m. c.swap_remove.ensures.updates m)); waits = λ d. refl }, record { promises = omega arith; askers = omega (arith, c.swap_remove.ensures.room); waits = omega arith; count = fewer_count (is_some c.swap_remove.result) h.askers.entries c.swap_remove.new.self.entries c.swap_remove.ensures.len; stays = settled_takes (share_of mid) (runs_at eq law e.0 es (map arc_value c.args.candidates.now.items) (vec_capacity c.args.candidates.now) h c.requires.listed i.known) }))

pub returns-clause-linked : goal.returns-clause-linked
returns-clause-linked g c =
    let eq = g.K.PartialEq.eq in
    let law = c.requires.equality in
    let es = c.args.places.now.entries in
    let h = c.in-Some.place.now in
    let w : Place g.row.K.Denot g.row.T.Denot = c.settle.new.place in
    let e = entry_of_value es c.args.at h c.in-Some.ensures.value in
    let i = written_at eq law es (set_value_at es c.args.at w) c.args.at e.0 h w c.requires.linked.distinct e.1 refl in
    let mid : Place g.row.K.Denot g.row.T.Denot = record { task = h.task; live = h.live; promises = h.promises; askers = c.swap_remove.new.self; waits = h.waits; name = h.name } in
    let names = names_of es in
    let before = c.requires.linked.askers (e.0, h) (has_at es c.args.at (e.0, h) e.1) in
    let after = numbered_on names h.askers.entries c.swap_remove.new.self.entries c.args.asker None before c.swap_remove.ensures.distinct (λ m. c.swap_remove.ensures.updates m) (λ a z. absurd (none-some a z)) in
    let same = same_number eq law es c.requires.linked.distinct in
    linked_set eq (λ b. eq (arc_value e.0) (arc_value b)) es (set_value_at es c.args.at w) h w c.requires.linked i.set i.known (λ _. subst (λ m. AreNumbered names m.entries) (sym c.settle.ensures.askers) after) (λ n. subst (λ m. AreNumbered (names_of es) m.entries) (sym c.settle.ensures.waits) n)

pub returns-clause-names : goal.returns-clause-names
returns-clause-names g c =
    names_at_set c.args.places.now.entries c.args.at c.settle.new.place
