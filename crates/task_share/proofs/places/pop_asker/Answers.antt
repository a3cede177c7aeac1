use Rattle.std.proofs.Common.{◌≡◌, ◌++◌, [], map, is_some, None, refl, sym, ap, ◌∙◌, subst, arith, append-nil}
use Rattle.std.specs.Prelude.{IsSome}
use Rattle.std.specs.Arc.{arc_value}
use Rattle.std.specs.List.{list_any}
use Rattle.std.specs.Map.{values_of}
use Rattle.std.specs.Option.{option_to_list}
use Rattle.std.specs.Vec.{vec_capacity}
use Rattle.std.proofs.lemmas.Option.{none-some}
use Rattle.indexmap.specs.IndexMap.{set_value_at}
use Rattle.task_share.specs.Asked.{Tasked}
use Rattle.task_share.specs.Seen.{Share, has_by, is_for}
use Rattle.task_share.specs.Listed.{share_of, shares_of, names_of, AreNumbered, IsListed}
use Rattle.task_share.specs.declared.place.Place.{Place}
use Rattle.task_share.proofs.PlaceLemmas.{written_listed, has_room, left_task, same_asks, fewer_count, fewer_by_one, popped_fewer, settled_takes, runs_at, if_some, if_none, any_last}
use Rattle.task_share.proofs.NumberLemmas.{entry_of_value, has_at, written_at, lookup_at, changed_at, numbered_on, same_number, any_on, share_at}
use Rattle.task_share.proofs.IdleLemmas.{popped_value}
use Rattle.lists.specs.Lists.{Has}
use Rattle.lists.proofs.Members.{none_left, has_end}
use Rattle.task_share.proofs.places.pop_asker.Goals as goal

pub settle-requires : goal.settle-requires
settle-requires g c = λ n.
    let eq = g.K.PartialEq.eq in
    let es = c.args.places.now.entries in
    let e = entry_of_value es c.args.at c.in-Some.place.now c.in-Some.ensures.value in
    has_room eq c.requires.equality e.0 es c.args.candidates.now.items (vec_capacity c.args.candidates.now) c.in-Some.place.now c.requires.listed (lookup_at eq c.requires.equality es c.args.at (e.0, c.in-Some.place.now) c.requires.linked.distinct e.1) n

pub returns-clause-listed : goal.returns-clause-listed
returns-clause-listed g c =
    let eq = g.K.PartialEq.eq in
    let law = c.requires.equality in
    let es = c.args.places.now.entries in
    let h = c.in-Some.place.now in
    let w : Place g.row.K.Denot g.row.T.Denot = c.settle.new.place in
    let e = entry_of_value es c.args.at h c.in-Some.ensures.value in
    let i = written_at eq law es (set_value_at es c.args.at w) c.args.at e.0 h w c.requires.linked.distinct e.1 refl in
    let mid : Place g.row.K.Denot g.row.T.Denot = record { task = h.task; live = h.live; promises = h.promises; askers = c.pop-asker.new.self; waits = h.waits; name = h.name } in
    subst (IsListed eq (shares_of (set_value_at es c.args.at w)) (map arc_value c.settle.new.candidates.items)) (sym c.settle.ensures.room)
    (written_listed eq law e.0 es (set_value_at es c.args.at w) c.args.candidates.now.items c.settle.new.candidates.items (vec_capacity c.args.candidates.now) h w (share_of mid) i c.requires.listed refl (λ t. t) (λ _ t. t) (λ r. r) c.settle.ensures.place c.settle.ensures.candidates)

pub returns-clause-named : goal.returns-clause-named
returns-clause-named g c =
    let eq = g.K.PartialEq.eq in
    let law = c.requires.equality in
    let es = c.args.places.now.entries in
    let h = c.in-Some.place.now in
    let w : Place g.row.K.Denot g.row.T.Denot = c.settle.new.place in
    let e = entry_of_value es c.args.at h c.in-Some.ensures.value in
    let i = written_at eq law es (set_value_at es c.args.at w) c.args.at e.0 h w c.requires.linked.distinct e.1 refl in
    let mid : Place g.row.K.Denot g.row.T.Denot = record { task = h.task; live = h.live; promises = h.promises; askers = c.pop-asker.new.self; waits = h.waits; name = h.name } in
    let before = c.requires.linked.askers (e.0, h) (has_at es c.args.at (e.0, h) e.1) in
    if_some c.pop-asker.result (λ x z up. before x (subst (λ xs. Has xs x) (sym (c.pop-asker.ensures.entries ∙ ap (λ r. c.pop-asker.new.self.entries ++ option_to_list r) z)) (has_end c.pop-asker.new.self.entries x))) c.pop-asker.ensures.updates

pub returns-clause-asked : goal.returns-clause-asked
returns-clause-asked g c = λ k named.
    let eq = g.K.PartialEq.eq in
    let law = c.requires.equality in
    let es = c.args.places.now.entries in
    let h = c.in-Some.place.now in
    let w : Place g.row.K.Denot g.row.T.Denot = c.settle.new.place in
    let e = entry_of_value es c.args.at h c.in-Some.ensures.value in
    let i = written_at eq law es (set_value_at es c.args.at w) c.args.at e.0 h w c.requires.linked.distinct e.1 refl in
    let mid : Place g.row.K.Denot g.row.T.Denot = record { task = h.task; live = h.live; promises = h.promises; askers = c.pop-asker.new.self; waits = h.waits; name = h.name } in
    if_some c.pop-asker.result (λ x z up. ap (is_for (λ (p : Share g.row.K.Denot g.row.T.Denot). has_by eq p (Tasked (arc_value x.1)))) (share_at eq law es c.args.at e.0 h k c.requires.linked.distinct e.1 named)
    ∙ (ap (list_any (eq (arc_value x.1))) (popped_value h.askers.entries c.pop-asker.new.self.entries x (c.pop-asker.ensures.entries ∙ ap (λ r. c.pop-asker.new.self.entries ++ option_to_list r) z)) ∙ any_last (eq (arc_value x.1)) (map arc_value (values_of c.pop-asker.new.self.entries)) (arc_value x.1) (law.itself (arc_value x.1)))) c.pop-asker.ensures.updates

pub returns-clause-some : goal.returns-clause-some
returns-clause-some g c =
    let eq = g.K.PartialEq.eq in
    let law = c.requires.equality in
    let es = c.args.places.now.entries in
    let h = c.in-Some.place.now in
    let w : Place g.row.K.Denot g.row.T.Denot = c.settle.new.place in
    let e = entry_of_value es c.args.at h c.in-Some.ensures.value in
    let i = written_at eq law es (set_value_at es c.args.at w) c.args.at e.0 h w c.requires.linked.distinct e.1 refl in
    let mid : Place g.row.K.Denot g.row.T.Denot = record { task = h.task; live = h.live; promises = h.promises; askers = c.pop-asker.new.self; waits = h.waits; name = h.name } in
    let before = c.requires.linked.askers (e.0, h) (has_at es c.args.at (e.0, h) e.1) in
    let names = names_of es in
    let same = same_number eq law es c.requires.linked.distinct in
    if_some c.pop-asker.result (λ x z up.
    let after = numbered_on names h.askers.entries c.pop-asker.new.self.entries x.0 None before c.pop-asker.ensures.distinct (λ m. up m) (λ a y. absurd (none-some a y)) in
    changed_at eq law es (set_value_at es c.args.at w) c.args.at e.0 h w _ c.requires.linked e.1 refl (λ _. subst (λ m. AreNumbered names m.entries) (sym c.settle.ensures.askers) after) (λ n. subst (λ m. AreNumbered (names_of es) m.entries) (sym c.settle.ensures.waits) n)
    (rw c.settle.ensures.place (record { task = refl; live = refl; asks = left_task eq (share_of h) (share_of mid) (arc_value x.1) refl (any_on eq law names same h.askers.entries c.pop-asker.new.self.entries x.0 (arc_value x.1) None before after (before x (subst (λ xs. Has xs x) (sym (c.pop-asker.ensures.entries ∙ ap (λ r. c.pop-asker.new.self.entries ++ option_to_list r) z)) (has_end c.pop-asker.new.self.entries x))) (λ m. up m)); waits = λ d. refl }, record { promises = omega arith; askers = omega (arith, c.pop-asker.ensures.room); waits = omega arith; count = fewer_count (is_some c.pop-asker.result) h.askers.entries c.pop-asker.new.self.entries c.pop-asker.ensures.len; stays = settled_takes (share_of mid) (runs_at eq law e.0 es (map arc_value c.args.candidates.now.items) (vec_capacity c.args.candidates.now) h c.requires.listed i.known) }))) c.pop-asker.ensures.updates

pub returns-clause-fewer : goal.returns-clause-fewer
returns-clause-fewer g c =
    let eq = g.K.PartialEq.eq in
    let law = c.requires.equality in
    let es = c.args.places.now.entries in
    let h = c.in-Some.place.now in
    let w : Place g.row.K.Denot g.row.T.Denot = c.settle.new.place in
    let e = entry_of_value es c.args.at h c.in-Some.ensures.value in
    let i = written_at eq law es (set_value_at es c.args.at w) c.args.at e.0 h w c.requires.linked.distinct e.1 refl in
    let mid : Place g.row.K.Denot g.row.T.Denot = record { task = h.task; live = h.live; promises = h.promises; askers = c.pop-asker.new.self; waits = h.waits; name = h.name } in
    if_some c.pop-asker.result (λ x z up. popped_fewer eq law e.0 es (set_value_at es c.args.at w) h w (share_of mid) i c.settle.ensures.place (fewer_by_one c.pop-asker.result x h.askers.entries c.pop-asker.new.self.entries z c.pop-asker.ensures.len)) c.pop-asker.ensures.updates

pub returns-clause-alone : goal.returns-clause-alone
returns-clause-alone g c = λ k named.
    let eq = g.K.PartialEq.eq in
    let law = c.requires.equality in
    let es = c.args.places.now.entries in
    let h = c.in-Some.place.now in
    let w : Place g.row.K.Denot g.row.T.Denot = c.settle.new.place in
    let e = entry_of_value es c.args.at h c.in-Some.ensures.value in
    let i = written_at eq law es (set_value_at es c.args.at w) c.args.at e.0 h w c.requires.linked.distinct e.1 refl in
    let mid : Place g.row.K.Denot g.row.T.Denot = record { task = h.task; live = h.live; promises = h.promises; askers = c.pop-asker.new.self; waits = h.waits; name = h.name } in
    let empty : c.pop-asker.result ≡ None → h.askers.entries ≡ [] = λ z. none_left h.askers.entries (λ lt. let y = subst IsSome z (c.pop-asker.ensures.found.1 lt) in cc) in
    if_none c.pop-asker.result (λ z j. ap (is_for (λ (p : Share g.row.K.Denot g.row.T.Denot). has_by eq p (Tasked j))) (share_at eq law es c.args.at e.0 h k c.requires.linked.distinct e.1 named) ∙ ap (λ xs. list_any (eq j) (map arc_value (values_of xs))) (empty z))

pub returns-clause-none : goal.returns-clause-none
returns-clause-none g c =
    let eq = g.K.PartialEq.eq in
    let law = c.requires.equality in
    let es = c.args.places.now.entries in
    let h = c.in-Some.place.now in
    let w : Place g.row.K.Denot g.row.T.Denot = c.settle.new.place in
    let e = entry_of_value es c.args.at h c.in-Some.ensures.value in
    let i = written_at eq law es (set_value_at es c.args.at w) c.args.at e.0 h w c.requires.linked.distinct e.1 refl in
    let mid : Place g.row.K.Denot g.row.T.Denot = record { task = h.task; live = h.live; promises = h.promises; askers = c.pop-asker.new.self; waits = h.waits; name = h.name } in
    let before = c.requires.linked.askers (e.0, h) (has_at es c.args.at (e.0, h) e.1) in
    if_none c.pop-asker.result (λ z.
    let kept : c.pop-asker.new.self.entries ≡ h.askers.entries = sym (append-nil c.pop-asker.new.self.entries) ∙ sym (c.pop-asker.ensures.entries ∙ ap (λ r. c.pop-asker.new.self.entries ++ option_to_list r) z) in
    changed_at eq law es (set_value_at es c.args.at w) c.args.at e.0 h w _ c.requires.linked e.1 refl (λ n. subst (λ m. AreNumbered (names_of es) m.entries) (sym c.settle.ensures.askers) (subst (AreNumbered (names_of es)) (sym kept) n)) (λ n. subst (λ m. AreNumbered (names_of es) m.entries) (sym c.settle.ensures.waits) n)
    (rw c.settle.ensures.place (record { task = refl; live = refl; asks = same_asks eq (share_of h) (share_of mid) refl (ap (λ xs. map arc_value (values_of xs)) kept); waits = λ d. refl }, record { promises = omega arith; askers = omega (arith, c.pop-asker.ensures.room); waits = omega arith; count = fewer_count (is_some c.pop-asker.result) h.askers.entries c.pop-asker.new.self.entries c.pop-asker.ensures.len; stays = settled_takes (share_of mid) (runs_at eq law e.0 es (map arc_value c.args.candidates.now.items) (vec_capacity c.args.candidates.now) h c.requires.listed i.known) })))
