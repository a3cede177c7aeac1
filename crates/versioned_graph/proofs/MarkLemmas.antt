-- M is sound.
use Rattle.std.proofs.Common.{◌≡◌, ◌≤◌, ◌-◌, inl, inr, ℕ, suc, Bool, true, false, not, nat_eq, List, [], ◌∷◌, ◌++◌, length, Option, Some, None, refl, sym, ◌∙◌, subst, eqb-true}
use Rattle.std.specs.List.{AllZip, list_all}
use Rattle.dice_key.specs.Meaning.{Meaning, Answered}
use Rattle.dice_key.specs.Lawful.{IsLawful, AreSame}
use Rattle.dice_key.specs.declared.universe.Kind.{Kind}
use Rattle.dice_key.specs.declared.universe.Kind.TheVariants.{Injected, Computed, Projection}
use Rattle.dice_model.specs.Log.{input}
use Rattle.dice_model.specs.Eval.{HasValue}
use Rattle.dice_model.specs.Asks.{AllTrue, Goes, IsTrace}
use Rattle.dice_model.proofs.EvalLaws.{one_value}
use Rattle.dice_model.proofs.Traces.{trace_value}
use Rattle.dice_model.proofs.Alike.{same_answers}
use Rattle.versioned_graph.specs.Entries.{Kept, if_injected, all_of, known_by, known, marked}
use Rattle.versioned_graph.specs.Sound.{IsTrue, Holds}
use Rattle.version_ranges.specs.Rounds.{all_between}
use Rattle.version_ranges.proofs.Rounds.{there}
use Rattle.version_ranges.specs.Rounds.{all_from}
use Rattle.injected.specs.Rounds.{stays}
use Rattle.injected.proofs.Rounds.{stays_there}
use Rattle.std.proofs.lemmas.Bool.{and_parts, not-true, or_cases}

-- a test that holds from one version to another holds where it begins
here : (f : ℕ → Bool) (v w : ℕ) → all_between f v w ≡ true → f v ≡ true
here f v w h = (and_parts (f v) (all_from f (suc v) (w - v)) (and_parts (all_from f v (suc (w - v))) (all_from f w (suc (v - w))) h).0).0

module _ {K V : Type 0} (eq : K → K → Bool) (m : Meaning K V) (law : IsLawful m) (veq : V → V → Bool) (same : AreSame veq)
    (C : List (List (K × V))) (at : ℕ → K → V) (holds : Holds eq m C at) (es : K → Option (Kept K V)) (true_ones : (k : K) (e : Kept K V) → es k ≡ Some e → IsTrue eq m C k e) where
  input_value : (w : ℕ) (d : K) → m.kind d ≡ Injected → HasValue eq m C w d (input eq m C w d)
  input_value w d p = record { depth = 1; gives = rw p refl }

  -- at a version that is known for a dependency it has the value that it had at the version at
  -- which it was asked
  pub known_true : (v w : ℕ) → v ≤ length C → w ≤ length C → (d : K) (a : V) → HasValue eq m C v d a → known m veq at es v w d ≡ true → HasValue eq m C w d a
  known_true v w hv hw d a i e = by_kinds (m.kind d) refl e
    where
      by_entry : (o : Option (Kept K V)) → es d ≡ o → known_by o v w ≡ true → HasValue eq m C w d a
      by_entry None p q = absurd (let z : false ≡ true = q in cc)
      by_entry (Some f) p q =
          let t = true_ones d f p in
          let s : f.value ≡ a = one_value eq m C v d f.value a (t.holds v (here f.ranges v w q) hv) i in
          subst (HasValue eq m C w d) s (t.holds w (there f.ranges v w q) hw)

      by_kinds : (kd : Kind) → m.kind d ≡ kd → if_injected kd (stays veq (λ u. at u d) v w) (known_by (es d) v w) ≡ true → HasValue eq m C w d a
      by_kinds Injected p q =
          let s : at w d ≡ at v d = same (at w d) (at v d) (stays_there veq (λ u. at u d) v w q) in
          let t : input eq m C w d ≡ a = sym (holds w d) ∙ (s ∙ (holds v d ∙ one_value eq m C v d (input eq m C v d) a (input_value v d p) i)) in
          subst (HasValue eq m C w d) t (input_value w d p)
      by_kinds Computed p q = by_entry (es d) refl q
      by_kinds Projection p q = by_entry (es d) refl q

  batch_true : (v w : ℕ) → v ≤ length C → w ≤ length C → (ks : List K) (xs : List V) → AllZip (HasValue eq m C v) ks xs → list_all (known m veq at es v w) ks ≡ true → AllZip (HasValue eq m C w) ks xs
  batch_true v w hv hw [] [] z e = tt
  batch_true v w hv hw [] (x ∷ xs) z e = z
  batch_true v w hv hw (k ∷ ks) [] z e = z
  batch_true v w hv hw (k ∷ ks) (x ∷ xs) z e =
      let b = and_parts (known m veq at es v w k) (list_all (known m veq at es v w) ks) e in
      (known_true v w hv hw k x z.0 b.0, batch_true v w hv hw ks xs z.1 b.1)

  pub trace_true : (v w : ℕ) → v ≤ length C → w ≤ length C → (k : K) (before A : List (Answered K V)) → Goes eq m C v k before A → all_of (known m veq at es v w) A ≡ true → AllTrue (HasValue eq m C w) A
  trace_true v w hv hw k before [] g e = tt
  trace_true v w hv hw k before (b ∷ bs) g e =
      let p = and_parts (list_all (known m veq at es v w) b.keys) (all_of (known m veq at es v w) bs) e in
      (batch_true v w hv hw b.keys b.values g.1 p.0, trace_true v w hv hw k (before ++ b ∷ []) bs g.2 p.1)

  -- M is sound: at each version in it, up to the newest, the key comes to the finished value by the finished trace
  pub marked_trace : (v : ℕ) → v ≤ length C → (k : K) (x : V) (A : List (Answered K V)) → IsTrace eq m C v k A x → (w : ℕ) → marked m veq at es v x A w ≡ true → w ≤ length C → IsTrace eq m C w k A x
  marked_trace v hv k x A t w e h = elim (or_cases (nat_eq w v) _ e) as (λ _. IsTrace eq m C w k A x) [
    | inl p ↦ subst (λ n. IsTrace eq m C n k A x) (sym (eqb-true w v p)) t
    | inr q ↦ (let b = and_parts (not (m.is_transient x)) (all_of (known m veq at es v w) A) q in
        let s = same_answers eq m law C C v w k A x t.computed t.goes t.ends (not-true (m.is_transient x) b.0) (trace_true v w hv h k [] A t.goes b.1) in
        record { computed = t.computed; goes = s.0; ends = s.1 })
  ]

  pub marked_true : (v : ℕ) → v ≤ length C → (k : K) (x : V) (A : List (Answered K V)) → IsTrace eq m C v k A x → (w : ℕ) → marked m veq at es v x A w ≡ true → w ≤ length C → HasValue eq m C w k x
  marked_true v hv k x A t w e h = let s = marked_trace v hv k x A t w e h in trace_value eq m C w law k A x s.computed s.goes s.ends
