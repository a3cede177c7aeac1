use Rattle.std.proofs.Common.{◌≡◌, Some, false, is_some, refl, sym, ap, ◌∙◌, subst, arith}
use Rattle.std.specs.Arc.{arc_value}
use Rattle.std.specs.Map.{lookup}
use Rattle.std.specs.Option.{option_map}
use Rattle.std.proofs.lemmas.Option.{same_Some}
use Rattle.indexmap.specs.IndexMap.{set_value_at}
use Rattle.task_share.specs.Seen.{is_for, takes_task}
use Rattle.task_share.specs.Listed.{share_of, shares_of, UsesRoom, Stays}
use Rattle.task_share.specs.declared.place.Place.{Place}
use Rattle.task_share.proofs.PlaceLemmas.{lookup_shares, changed_written, set_shares}
use Rattle.task_share.proofs.TurnLemmas.{stays_kept}
use Rattle.task_share.proofs.NumberLemmas.{entry_of_value, written_at, share_at, key_named, linked_set, names_at_set}
use Rattle.task_share.proofs.IdleLemmas.{named_listed, or_true}
use Rattle.task_share.proofs.room.name_place.Goals as goal

pub returns-clause-listed : goal.returns-clause-listed
returns-clause-listed g c =
    let eq = g.K.PartialEq.eq in
    let law = c.requires.equality in
    let es = c.args.places.now.entries in
    let h = c.in-Some.place.now in
    let w : Place g.row.K.Denot g.row.T.Denot = record { task = h.task; live = h.live; promises = h.promises; askers = h.askers; waits = h.waits; name = Some c.args.name } in
    let e = entry_of_value es c.args.at h c.in-Some.ensures.value in
    let fs = set_value_at es c.args.at w in
    let i = written_at eq law es fs c.args.at e.0 h w c.requires.linked.distinct e.1 refl in
    let found = share_at eq law es c.args.at e.0 h (arc_value e.0) c.requires.linked.distinct e.1 (key_named eq law es c.args.at e.0 h e.1) in
    let same : arc_value c.args.name ≡ arc_value e.0 = same_Some (arc_value c.args.name) (arc_value e.0) (sym c.requires.named ∙ key_named eq law es c.args.at e.0 h e.1) in
    let now : lookup (eq (arc_value e.0)) (shares_of fs) ≡ Some (share_of w) = lookup_shares (eq (arc_value e.0)) fs ∙ ap (option_map share_of) i.here in
    let d = changed_written eq law e.0 es fs h w (λ p r. Unit {0}) i tt in
    named_listed eq law (shares_of es) (shares_of fs) (arc_value e.0) (arc_value c.args.name) (share_of h) same found
    (sym (ap (is_for takes_task) found) ∙ subst (λ k. is_for takes_task (lookup (eq k) (shares_of es)) ≡ false) same c.requires.free)
    (ap shares_of i.set ∙ set_shares (eq (arc_value e.0)) es w) now d.others

pub returns-clause-kept : goal.returns-clause-kept
returns-clause-kept g c =
    let eq = g.K.PartialEq.eq in
    let law = c.requires.equality in
    let es = c.args.places.now.entries in
    let h = c.in-Some.place.now in
    let w : Place g.row.K.Denot g.row.T.Denot = record { task = h.task; live = h.live; promises = h.promises; askers = h.askers; waits = h.waits; name = Some c.args.name } in
    let e = entry_of_value es c.args.at h c.in-Some.ensures.value in
    let fs = set_value_at es c.args.at w in
    let i = written_at eq law es fs c.args.at e.0 h w c.requires.linked.distinct e.1 refl in
    let found = share_at eq law es c.args.at e.0 h (arc_value e.0) c.requires.linked.distinct e.1 (key_named eq law es c.args.at e.0 h e.1) in
    let same : arc_value c.args.name ≡ arc_value e.0 = same_Some (arc_value c.args.name) (arc_value e.0) (sym c.requires.named ∙ key_named eq law es c.args.at e.0 h e.1) in
    let now : lookup (eq (arc_value e.0)) (shares_of fs) ≡ Some (share_of w) = lookup_shares (eq (arc_value e.0)) fs ∙ ap (option_map share_of) i.here in
    stays_kept eq law (shares_of es) (shares_of fs) (arc_value e.0) (λ p r. Stays eq p r × UsesRoom 0 0 0 p r)
    (changed_written eq law e.0 es fs h w _ i (record { task = refl; live = refl; asks = λ a. refl; waits = λ d. refl }, record { promises = omega arith; askers = omega arith; waits = omega arith; count = omega arith; stays = λ _. or_true (is_some h.task) })) (λ p r x. x)

pub returns-clause-ok : goal.returns-clause-ok
returns-clause-ok g c =
    let eq = g.K.PartialEq.eq in
    let law = c.requires.equality in
    let es = c.args.places.now.entries in
    let h = c.in-Some.place.now in
    let w : Place g.row.K.Denot g.row.T.Denot = record { task = h.task; live = h.live; promises = h.promises; askers = h.askers; waits = h.waits; name = Some c.args.name } in
    let e = entry_of_value es c.args.at h c.in-Some.ensures.value in
    let fs = set_value_at es c.args.at w in
    let i = written_at eq law es fs c.args.at e.0 h w c.requires.linked.distinct e.1 refl in
    let found = share_at eq law es c.args.at e.0 h (arc_value e.0) c.requires.linked.distinct e.1 (key_named eq law es c.args.at e.0 h e.1) in
    let same : arc_value c.args.name ≡ arc_value e.0 = same_Some (arc_value c.args.name) (arc_value e.0) (sym c.requires.named ∙ key_named eq law es c.args.at e.0 h e.1) in
    let now : lookup (eq (arc_value e.0)) (shares_of fs) ≡ Some (share_of w) = lookup_shares (eq (arc_value e.0)) fs ∙ ap (option_map share_of) i.here in
    ap (λ k. is_for takes_task (lookup (eq k) (shares_of fs))) same ∙ (ap (is_for takes_task) now ∙ or_true (is_some h.task))

pub returns-clause-linked : goal.returns-clause-linked
returns-clause-linked g c =
    let eq = g.K.PartialEq.eq in
    let law = c.requires.equality in
    let es = c.args.places.now.entries in
    let h = c.in-Some.place.now in
    let w : Place g.row.K.Denot g.row.T.Denot = record { task = h.task; live = h.live; promises = h.promises; askers = h.askers; waits = h.waits; name = Some c.args.name } in
    let e = entry_of_value es c.args.at h c.in-Some.ensures.value in
    let fs = set_value_at es c.args.at w in
    let i = written_at eq law es fs c.args.at e.0 h w c.requires.linked.distinct e.1 refl in
    let found = share_at eq law es c.args.at e.0 h (arc_value e.0) c.requires.linked.distinct e.1 (key_named eq law es c.args.at e.0 h e.1) in
    let same : arc_value c.args.name ≡ arc_value e.0 = same_Some (arc_value c.args.name) (arc_value e.0) (sym c.requires.named ∙ key_named eq law es c.args.at e.0 h e.1) in
    let now : lookup (eq (arc_value e.0)) (shares_of fs) ≡ Some (share_of w) = lookup_shares (eq (arc_value e.0)) fs ∙ ap (option_map share_of) i.here in
    linked_set eq (λ b. eq (arc_value e.0) (arc_value b)) es fs h w c.requires.linked i.set i.known (λ n. n) (λ n. n)

pub returns-clause-names : goal.returns-clause-names
returns-clause-names g c =
    let h = c.in-Some.place.now in
    let w : Place g.row.K.Denot g.row.T.Denot = record { task = h.task; live = h.live; promises = h.promises; askers = h.askers; waits = h.waits; name = Some c.args.name } in
    names_at_set c.args.places.now.entries c.args.at w
