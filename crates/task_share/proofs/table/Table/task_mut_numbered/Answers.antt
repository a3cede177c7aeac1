use Rattle.std.proofs.Common.{◌≡◌, ◌∙◌, sym, ap, subst, refl, Some, None, true, false, map, List, is_some}
use Rattle.std.specs.Prelude.{option_and_then}
use Rattle.std.specs.Arc.{arc_value}
use Rattle.std.specs.Option.{option_copied_mut, option_map, ghost_name_of}
use Rattle.std.specs.Vec.{vec_capacity}
use Rattle.std.proofs.lemmas.Option.{same_Some, none-some}
use Rattle.indexmap.specs.IndexMap.{set_value_at}
use Rattle.task_share.specs.Lent.{WritesTask}
use Rattle.task_share.specs.Numbers.{KeepsNumbers}
use Rattle.task_share.specs.Seen.{Share, task_at}
use Rattle.task_share.specs.Listed.{share_of, shares_of, IsLinked, IsWhole}
use Rattle.task_share.specs.declared.place.Place.{Place}
use Rattle.task_share.proofs.PlaceLemmas.{changed_written, kept_listed}
use Rattle.task_share.proofs.TableLemmas.{written_mirrored, written, on_some}
use Rattle.lists.proofs.Options.{is_missing}
use Rattle.task_share.proofs.NumberLemmas.{entry_of_value, no_entry, written_at, changed_at, linked_set, set_at_same, share_at, named_at, number_names, numbers_kept}
use Rattle.task_share.proofs.table.Table.task_mut_numbered.Goals as goal

pub invariant_of-self-lent : goal.invariant_of-self-lent
invariant_of-self-lent g c = λ r.
    let eq = g.K.PartialEq.eq in
    let law = c.self.invariant.0 in
    let n = c.args.number in
    let es = c.self.inside.places.entries in
    let h = c.in_ok-place.place.now in
    let e = entry_of_value es n h (sym (ap option_copied_mut c.in_ok-place.was) ∙ c.get_index_mut.ensures.value) in
    let same = set_at_same es n (e.0, h) e.1 in (
      λ t. (let w : Place g.row.K.Denot g.row.T.Denot = record { task = Some t; live = h.live; promises = h.promises; askers = h.askers; waits = h.waits; name = h.name } in
          let fs = set_value_at es n w in
          let i = written_at eq law es fs n e.0 h w c.self.invariant.2.distinct e.1 refl in (
            law,
            record {
              listed = kept_listed eq law e.0 es fs h w i refl (sym (sym c.is_some.ensures ∙ c.if-not-is_some.false)) (λ e. e) (λ r e. refl) _ _ c.self.invariant.1.listed;
              mirrored = written_mirrored eq law (shares_of es) (shares_of fs) (arc_value e.0) t (changed_written eq law e.0 es fs h w _ i refl) c.self.invariant.1.mirrored;
            },
            linked_set eq (λ a. eq (arc_value e.0) (arc_value a)) es fs h w c.self.invariant.2 i.set i.known (λ n. n) (λ n. n),
          )),
      (law, subst (λ xs. IsWhole eq (shares_of xs) (map arc_value c.self.inside.candidates.items) (vec_capacity c.self.inside.candidates)) (sym same) c.self.invariant.1, subst (IsLinked eq) (sym same) c.self.invariant.2),
    )

pub returns-in_err-place : goal.returns-in_err-place
returns-in_err-place g c =
    let eq = g.K.PartialEq.eq in
    let law = c.self.invariant.0 in
    let n = c.args.number in
    let es = c.self.inside.places.entries in
    let none = no_entry es n (sym (ap option_copied_mut c.in_err-place.was) ∙ c.get_index_mut.ensures.value) in (
      (sym (ap ghost_name_of c.from_residual.ensures), (λ t. on_some c.from_residual.result (λ s. absurd (let f : is_some c.from_residual.result ≡ false = ap is_some c.from_residual.ensures in let b : true ≡ false = sym s ∙ f in cc))), c.self.view_is),
      record { writes_back = tt; value = λ k at. absurd (none-some k (sym (named_at eq law es n ∙ ap (option_map (λ e. arc_value e.0)) none) ∙ number_names es _ n k c.self.view_is at)) },
    )

pub returns : goal.returns
returns g c =
    let eq = g.K.PartialEq.eq in
    let law = c.self.invariant.0 in
    let n = c.args.number in
    let es = c.self.inside.places.entries in
    let h = c.in_ok-place.place.now in
    let e = entry_of_value es n h (sym (ap option_copied_mut c.in_ok-place.was) ∙ c.get_index_mut.ensures.value) in
    let same = set_at_same es n (e.0, h) e.1 in (
      (
        refl,
        (λ t. on_some c.as_mut.result (λ s.
            let w : Place g.row.K.Denot g.row.T.Denot = record { task = Some t; live = h.live; promises = h.promises; askers = h.askers; waits = h.waits; name = h.name } in
            let fs = set_value_at es n w in
            let i = changed_at eq law es fs n e.0 h w (λ p r. r ≡ record p { task = Some t }) c.self.invariant.2 e.1 refl (λ x. x) (λ x. x) refl in (
              (λ k at. (let named = number_names es _ n k c.self.view_is at in
                  subst (λ (ps : List (g.row.K.Denot × Share g.row.K.Denot g.row.T.Denot)). WritesTask eq k ps (shares_of fs) t) c.self.view_is
                  (written eq law (shares_of es) (shares_of fs) k t (i.changed k named)
                  (λ p f. ap (λ (x : Share g.row.K.Denot g.row.T.Denot). is_some x.task) (same_Some p (share_of h) (sym f ∙ share_at eq law es n e.0 h k c.self.invariant.2.distinct e.1 named)) ∙ (sym c.as_mut.ensures.variant ∙ s))))),
              subst (λ (ps : List (g.row.K.Denot × Share g.row.K.Denot g.row.T.Denot)). KeepsNumbers ps (shares_of fs)) c.self.view_is (numbers_kept es fs i.names),
            ))),
        ap shares_of same ∙ c.self.view_is,
      ),
      record { writes_back = tt; value = λ k at. c.as_mut.ensures.value ∙ (sym (ap (option_and_then (λ (p : Share g.row.K.Denot g.row.T.Denot). p.task)) (share_at eq law es n e.0 h k c.self.invariant.2.distinct e.1 (number_names es _ n k c.self.view_is at))) ∙ ap (λ (ps : List (g.row.K.Denot × Share g.row.K.Denot g.row.T.Denot)). task_at eq ps k) c.self.view_is) },
    )

pub returns-then-not-is_some : goal.returns-then-not-is_some
returns-then-not-is_some g c =
    let eq = g.K.PartialEq.eq in
    let law = c.self.invariant.0 in
    let n = c.args.number in
    let es = c.self.inside.places.entries in
    let h = c.in_ok-place.place.now in
    let e = entry_of_value es n h (sym (ap option_copied_mut c.in_ok-place.was) ∙ c.get_index_mut.ensures.value) in
    let same = set_at_same es n (e.0, h) e.1 in
    let none : h.task ≡ None = is_missing h.task (sym c.is_some.ensures ∙ c.if-not-is_some.true) in (
      (refl, (λ t. tt), ap shares_of same ∙ c.self.view_is),
      record { writes_back = tt; value = λ k at. sym (sym (ap (λ (ps : List (g.row.K.Denot × Share g.row.K.Denot g.row.T.Denot)). task_at eq ps k) c.self.view_is) ∙ (ap (option_and_then (λ (p : Share g.row.K.Denot g.row.T.Denot). p.task)) (share_at eq law es n e.0 h k c.self.invariant.2.distinct e.1 (number_names es _ n k c.self.view_is at)) ∙ none)) },
    )

pub invariant_of-self-then-not-is_some : goal.invariant_of-self-then-not-is_some
invariant_of-self-then-not-is_some g c =
    let eq = g.K.PartialEq.eq in
    let law = c.self.invariant.0 in
    let n = c.args.number in
    let es = c.self.inside.places.entries in
    let h = c.in_ok-place.place.now in
    let e = entry_of_value es n h (sym (ap option_copied_mut c.in_ok-place.was) ∙ c.get_index_mut.ensures.value) in
    let same = set_at_same es n (e.0, h) e.1 in
    (law, subst (λ xs. IsWhole eq (shares_of xs) (map arc_value c.self.inside.candidates.items) (vec_capacity c.self.inside.candidates)) (sym same) c.self.invariant.1, subst (IsLinked eq) (sym same) c.self.invariant.2)
