use Rattle.std.proofs.Common.{◌≡◌, [], Some, false, map, refl, sym, ap, ◌∙◌, subst, arith}
use Rattle.std.specs.Arc.{arc_value}
use Rattle.std.specs.List.{list_any}
use Rattle.std.specs.Map.{values_of}
use Rattle.indexmap.specs.IndexMap.{set_value_at}
use Rattle.task_share.specs.Seen.{Share, list_for, is_for, takes_task}
use Rattle.task_share.specs.Listed.{share_of, names_of, AreNumbered}
use Rattle.task_share.specs.declared.place.Place.{Place}
use Rattle.task_share.proofs.PlaceLemmas.{put_listed, ended_busy, name_or_task}
use Rattle.task_share.proofs.NumberLemmas.{entry_of_value, has_at, written_at, changed_at, share_at, key_named, names_at_set}
use Rattle.lists.specs.Lists.{Has}
use Rattle.task_share.proofs.places.put_ended.Goals as goal

pub returns-clause-listed : goal.returns-clause-listed
returns-clause-listed g c =
    let eq = g.K.PartialEq.eq in
    let law = c.requires.equality in
    let es = c.args.places.now.entries in
    let h = c.in-Some.free.now in
    let w : Place g.row.K.Denot g.row.T.Denot = record { task = Some c.args.task; live = false; promises = h.promises; askers = h.askers; waits = c.replace.new.dest; name = h.name } in
    let e = entry_of_value es c.args.at h c.in-Some.ensures.value in
    let i = written_at eq law es (set_value_at es c.args.at w) c.args.at e.0 h w c.requires.linked.distinct e.1 refl in
    put_listed eq law e.0 es (set_value_at es c.args.at w) h w i refl (λ _. refl)
    (λ n _. name_or_task (share_of h) n (sym (ap (is_for takes_task) (share_at eq law es c.args.at e.0 h (arc_value e.0) c.requires.linked.distinct e.1 (key_named eq law es c.args.at e.0 h e.1))) ∙ c.requires.place (arc_value e.0) (key_named eq law es c.args.at e.0 h e.1)))
    (λ b. absurd (ended_busy eq law (share_of w) refl b)) (λ r b. refl)

pub returns-clause-numbered : goal.returns-clause-numbered
returns-clause-numbered g c =
    let eq = g.K.PartialEq.eq in
    let es = c.args.places.now.entries in
    let h = c.in-Some.free.now in
    let e = entry_of_value es c.args.at h c.in-Some.ensures.value in
    let w : Place g.row.K.Denot g.row.T.Denot = record { task = Some c.args.task; live = false; promises = h.promises; askers = h.askers; waits = c.replace.new.dest; name = h.name } in
    let l = c.requires.linked.waits (e.0, h) (has_at es c.args.at (e.0, h) e.1) in
    subst (λ ns. AreNumbered ns c.replace.result.entries) (sym (names_at_set es c.args.at w)) (subst (λ m. AreNumbered (names_of es) m.entries) (sym c.replace.ensures.value) l)

pub returns-clause-waits : goal.returns-clause-waits
returns-clause-waits g c = λ k named.
    let eq = g.K.PartialEq.eq in
    let law = c.requires.equality in
    let es = c.args.places.now.entries in
    let h = c.in-Some.free.now in
    let w : Place g.row.K.Denot g.row.T.Denot = record { task = Some c.args.task; live = false; promises = h.promises; askers = h.askers; waits = c.replace.new.dest; name = h.name } in
    let e = entry_of_value es c.args.at h c.in-Some.ensures.value in
    let i = written_at eq law es (set_value_at es c.args.at w) c.args.at e.0 h w c.requires.linked.distinct e.1 refl in
    ap (λ m. map arc_value (values_of m.entries)) c.replace.ensures.value ∙ sym (ap (list_for (λ (p : Share g.row.K.Denot g.row.T.Denot). p.waits)) (share_at eq law es c.args.at e.0 h k c.requires.linked.distinct e.1 named))

pub returns-clause-changed : goal.returns-clause-changed
returns-clause-changed g c =
    let eq = g.K.PartialEq.eq in
    let law = c.requires.equality in
    let es = c.args.places.now.entries in
    let h = c.in-Some.free.now in
    let w : Place g.row.K.Denot g.row.T.Denot = record { task = Some c.args.task; live = false; promises = h.promises; askers = h.askers; waits = c.replace.new.dest; name = h.name } in
    let e = entry_of_value es c.args.at h c.in-Some.ensures.value in
    let i = written_at eq law es (set_value_at es c.args.at w) c.args.at e.0 h w c.requires.linked.distinct e.1 refl in
    let none : c.replace.new.dest.entries ≡ [] = ap (λ m. m.entries) c.replace.ensures.after ∙ c.new-none.ensures.entries in
    changed_at eq law es (set_value_at es c.args.at w) c.args.at e.0 h w _ c.requires.linked e.1 refl (λ n. n) (λ n x y. absurd (subst (λ xs. Has xs x) none y))
    (record { task = refl; live = refl; asks = λ a. refl; waits = λ d. ap (λ xs. list_any (eq d) (map arc_value (values_of xs))) none }, record { promises = omega arith; askers = omega arith; waits = omega arith; count = omega arith; stays = λ _. refl })
