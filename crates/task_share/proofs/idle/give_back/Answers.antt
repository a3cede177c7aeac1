use Rattle.std.proofs.Common.{◌≡◌, ◌++◌, ◌∷◌, [], false, is_some, Some, refl, sym, ap, ◌∙◌, subst, arith}
use Rattle.std.specs.Arc.{arc_value}
use Rattle.std.specs.Map.{lookup, set_value}
use Rattle.std.specs.Option.{option_map}
use Rattle.std.proofs.lemmas.Option.{same_Some}
use Rattle.indexmap.specs.IndexMap.{set_value_at}
use Rattle.task_share.specs.Seen.{is_for}
use Rattle.task_share.specs.Listed.{share_of, shares_of, is_idle, IsListed, UsesRoom, Stays}
use Rattle.task_share.specs.declared.place.Place.{Place}
use Rattle.task_share.proofs.PlaceLemmas.{lookup_shares, set_shares, changed_written}
use Rattle.task_share.proofs.TurnLemmas.{stays_kept}
use Rattle.task_share.proofs.NumberLemmas.{entry_of_value, written_at, share_at, key_named, linked_set}
use Rattle.task_share.proofs.IdleLemmas.{back_listed, or_true}
use Rattle.task_share.proofs.idle.give_back.Goals as goal

pub returns : goal.returns
returns g c =
    let eq = g.K.PartialEq.eq in
    let law = c.requires.equality in
    let es = c.args.places.now.entries in
    let h = c.in-Some.place.now in
    let w : Place g.row.K.Denot g.row.T.Denot = record { task = h.task; live = h.live; promises = h.promises; askers = h.askers; waits = h.waits; name = Some c.args.key } in
    let e = entry_of_value es c.args.at h c.in-Some.ensures.value in
    let fs = set_value_at es c.args.at w in
    let i = written_at eq law es fs c.args.at e.0 h w c.requires.linked.distinct e.1 refl in
    let named = key_named eq law es c.args.at e.0 h e.1 in
    let found = share_at eq law es c.args.at e.0 h (arc_value e.0) c.requires.linked.distinct e.1 named in
    let same : arc_value c.args.key ≡ arc_value e.0 = same_Some (arc_value c.args.key) (arc_value e.0) (sym c.requires.named ∙ named) in
    let now : lookup (eq (arc_value e.0)) (shares_of fs) ≡ Some (share_of w) = lookup_shares (eq (arc_value e.0)) fs ∙ ap (option_map share_of) i.here in
    let d = changed_written eq law e.0 es fs h w (λ p r. Stays eq p r × UsesRoom 0 0 0 p r) i (record { task = refl; live = refl; asks = λ a. refl; waits = λ d. refl }, record { promises = omega arith; askers = omega arith; waits = omega arith; count = omega arith; stays = λ _. or_true (is_some h.task) }) in
    record {
      linked = linked_set eq (λ b. eq (arc_value e.0) (arc_value b)) es fs h w c.requires.linked i.set i.known (λ n. n) (λ n. n);
      listed = λ cs room l.
          let had = subst (λ k. IsListed eq (shares_of es) (cs ++ k ∷ []) room) same l in
          let put = subst (λ k. lookup (eq (arc_value e.0)) (shares_of fs) ≡ Some (record (share_of h) { name = Some k })) same now in
          back_listed eq law (shares_of es) (shares_of fs) cs (arc_value e.0) (share_of h) room found
          (sym (ap (is_for is_idle) found) ∙ subst (λ k. is_for is_idle (lookup (eq k) (shares_of es)) ≡ false) same c.requires.busy)
          (ap shares_of i.set ∙ (set_shares (eq (arc_value e.0)) es w ∙ ap (λ k. set_value (eq (arc_value e.0)) (shares_of es) (record (share_of h) { name = Some k })) same)) put d.others had;
      kept = stays_kept eq law (shares_of es) (shares_of fs) (arc_value e.0) _ d (λ p r x. x);
    }
