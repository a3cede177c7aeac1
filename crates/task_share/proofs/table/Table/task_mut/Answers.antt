use Rattle.std.proofs.Common.{◌≡◌, ◌∙◌, sym, ap, subst, refl, Some, None, true, false, map, List, is_some}
use Rattle.std.specs.Prelude.{IsSome, option_and_then}
use Rattle.std.specs.Arc.{arc_value}
use Rattle.std.specs.Map.{lookup}
use Rattle.std.specs.Option.{option_copied_mut, option_map, ghost_name_of}
use Rattle.std.specs.Vec.{vec_capacity}
use Rattle.std.proofs.lemmas.Option.{same_Some}
use Rattle.std.proofs.lemmas.Map.Steps.{set_value_same}
use Rattle.task_share.specs.Lent.{WritesTask}
use Rattle.task_share.specs.Seen.{Share, task_at}
use Rattle.task_share.specs.Listed.{share_of, shares_of, IsLinked, IsWhole}
use Rattle.task_share.specs.declared.place.Place.{Place}
use Rattle.task_share.proofs.PlaceLemmas.{IsWritten, lookup_shares, changed_written, kept_listed}
use Rattle.task_share.proofs.TableLemmas.{written_mirrored, written, on_some}
use Rattle.lists.proofs.Options.{is_missing}
use Rattle.task_share.proofs.NumberLemmas.{linked_set}
use Rattle.task_share.proofs.table.Table.task_mut.Goals as goal

pub invariant_of-self-lent : goal.invariant_of-self-lent
invariant_of-self-lent g c = λ r.
    let eq = g.K.PartialEq.eq in
    let law = c.self.invariant.0 in
    let key = c.args.key.now in
    let es = c.self.inside.places.entries in
    let h = c.in_ok-place.place.now in
    let known : lookup (λ a. eq (arc_value key) (arc_value a)) es ≡ Some h = sym c.get_mut.ensures.value ∙ ap option_copied_mut c.in_ok-place.was in (
      λ t. (let w : Place g.row.K.Denot g.row.T.Denot = record { task = Some t; live = h.live; promises = h.promises; askers = h.askers; waits = h.waits; name = h.name } in
          let o = c.get_mut.follows.holds w in
          let u = o.3 (subst IsSome (sym known) refl) in
          let i : IsWritten eq key es (c.get_mut.follows.lender w).entries h w = record { known = known; set = o.0; here = u.1; others = u.2 } in (
            law,
            record {
              listed = kept_listed eq law key es (c.get_mut.follows.lender w).entries h w i refl (sym (sym c.is_some.ensures ∙ c.if-not-is_some.false)) (λ e. e) (λ r e. refl) _ _ c.self.invariant.1.listed;
              mirrored = written_mirrored eq law (shares_of es) (shares_of (c.get_mut.follows.lender w).entries) (arc_value key) t (changed_written eq law key es (c.get_mut.follows.lender w).entries h w _ i refl) c.self.invariant.1.mirrored;
            },
            linked_set eq (λ a. eq (arc_value key) (arc_value a)) es (c.get_mut.follows.lender w).entries h w c.self.invariant.2 i.set known (λ n. n) (λ n. n),
          )),
      (let e = (c.get_mut.follows.holds h).0 ∙ set_value_same (λ a. eq (arc_value key) (arc_value a)) es h known in
          (law, subst (λ xs. IsWhole eq (shares_of xs) (map arc_value c.self.inside.candidates.items) (vec_capacity c.self.inside.candidates)) (sym e) c.self.invariant.1, subst (IsLinked eq) (sym e) c.self.invariant.2)),
    )

pub returns-in_err-place : goal.returns-in_err-place
returns-in_err-place g c =
    let eq = g.K.PartialEq.eq in
    let key = arc_value c.args.key.now in
    let found = lookup_shares (eq key) c.self.inside.places.entries ∙ ap (option_map share_of) (sym c.get_mut.ensures.value ∙ ap option_copied_mut c.in_err-place.was) in (
      (sym (ap ghost_name_of c.from_residual.ensures), (λ t. on_some c.from_residual.result (λ s. absurd (let f : is_some c.from_residual.result ≡ false = ap is_some c.from_residual.ensures in let b : true ≡ false = sym s ∙ f in cc))), ap (λ m. shares_of m.entries) c.get_mut.follows.holds-at-none ∙ c.self.view_is),
      record { writes_back = tt; value = ap option_copied_mut c.from_residual.ensures ∙ (sym (ap (option_and_then (λ (p : Share g.row.K.Denot g.row.T.Denot). p.task)) found) ∙ ap (λ (ps : List (g.row.K.Denot × Share g.row.K.Denot g.row.T.Denot)). task_at eq ps key) c.self.view_is) },
    )

pub returns : goal.returns
returns g c =
    let eq = g.K.PartialEq.eq in
    let law = c.self.invariant.0 in
    let key = c.args.key.now in
    let es = c.self.inside.places.entries in
    let h = c.in_ok-place.place.now in
    let known : lookup (λ a. eq (arc_value key) (arc_value a)) es ≡ Some h = sym c.get_mut.ensures.value ∙ ap option_copied_mut c.in_ok-place.was in
    let found = lookup_shares (eq (arc_value key)) es ∙ ap (option_map share_of) known in (
      (
        refl,
        (λ t. on_some c.as_mut.result (λ s.
            let w : Place g.row.K.Denot g.row.T.Denot = record { task = Some t; live = h.live; promises = h.promises; askers = h.askers; waits = h.waits; name = h.name } in
            let o = c.get_mut.follows.holds w in
            let u = o.3 (subst IsSome (sym known) refl) in
            let i : IsWritten eq key es (c.get_mut.follows.lender w).entries h w = record { known = known; set = o.0; here = u.1; others = u.2 } in
            subst (λ (ps : List (g.row.K.Denot × Share g.row.K.Denot g.row.T.Denot)). WritesTask eq (arc_value key) ps (shares_of (c.get_mut.follows.lender w).entries) t) c.self.view_is
            (written eq law (shares_of es) (shares_of (c.get_mut.follows.lender w).entries) (arc_value key) t (changed_written eq law key es (c.get_mut.follows.lender w).entries h w _ i refl)
            (λ p e. ap (λ (x : Share g.row.K.Denot g.row.T.Denot). is_some x.task) (same_Some p (share_of h) (sym e ∙ found)) ∙ (sym c.as_mut.ensures.variant ∙ s))))),
        ap shares_of ((c.get_mut.follows.holds h).0 ∙ set_value_same (λ a. eq (arc_value key) (arc_value a)) es h known) ∙ c.self.view_is,
      ),
      record { writes_back = tt; value = c.as_mut.ensures.value ∙ (sym (ap (option_and_then (λ (p : Share g.row.K.Denot g.row.T.Denot). p.task)) found) ∙ ap (λ (ps : List (g.row.K.Denot × Share g.row.K.Denot g.row.T.Denot)). task_at eq ps (arc_value key)) c.self.view_is) },
    )

pub returns-then-not-is_some : goal.returns-then-not-is_some
returns-then-not-is_some g c =
    let eq = g.K.PartialEq.eq in
    let law = c.self.invariant.0 in
    let key = c.args.key.now in
    let es = c.self.inside.places.entries in
    let h = c.in_ok-place.place.now in
    let known : lookup (λ a. eq (arc_value key) (arc_value a)) es ≡ Some h = sym c.get_mut.ensures.value ∙ ap option_copied_mut c.in_ok-place.was in
    let e = (c.get_mut.follows.holds h).0 ∙ set_value_same (λ a. eq (arc_value key) (arc_value a)) es h known in
    let found = lookup_shares (eq (arc_value key)) es ∙ ap (option_map share_of) known in
    let none : h.task ≡ None = is_missing h.task (sym c.is_some.ensures ∙ c.if-not-is_some.true) in (
      (refl, (λ t. tt), ap shares_of e ∙ c.self.view_is),
      record { writes_back = tt; value = sym (sym (ap (λ (ps : List (g.row.K.Denot × Share g.row.K.Denot g.row.T.Denot)). task_at eq ps (arc_value key)) c.self.view_is) ∙ (ap (option_and_then (λ (p : Share g.row.K.Denot g.row.T.Denot). p.task)) found ∙ none)) },
    )

pub invariant_of-self-then-not-is_some : goal.invariant_of-self-then-not-is_some
invariant_of-self-then-not-is_some g c =
    let eq = g.K.PartialEq.eq in
    let law = c.self.invariant.0 in
    let key = c.args.key.now in
    let es = c.self.inside.places.entries in
    let h = c.in_ok-place.place.now in
    let known : lookup (λ a. eq (arc_value key) (arc_value a)) es ≡ Some h = sym c.get_mut.ensures.value ∙ ap option_copied_mut c.in_ok-place.was in
    let e = (c.get_mut.follows.holds h).0 ∙ set_value_same (λ a. eq (arc_value key) (arc_value a)) es h known in
    (law, subst (λ xs. IsWhole eq (shares_of xs) (map arc_value c.self.inside.candidates.items) (vec_capacity c.self.inside.candidates)) (sym e) c.self.invariant.1, subst (IsLinked eq) (sym e) c.self.invariant.2)
