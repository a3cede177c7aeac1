-- Pairs of equal keys and values.
use Rattle.std.proofs.Common.{◌≡◌, ◌≢◌, ◌<◌, ◌+◌, ℕ, zero, suc, Bool, true, false, ◌&&◌, List, [], ◌∷◌, ◌++◌, length, take, drop, get_or, refl, sym, ap, ◌∙◌, subst, arith}
use Rattle.std.specs.Arc.{arc_value}
use Rattle.std.specs.declared.sync.Arc.{Arc}
use Rattle.dice_key.specs.Meaning.{Answered}
use Rattle.dice_key.specs.Lawful.{IsEquality}
use Rattle.dep_recorder.specs.Recordings.{same_pairs, answered_in, keys_in, values_in}
use Rattle.dep_recorder.proofs.Findings.{take_one}
use Rattle.std.proofs.lemmas.Bool.{and_parts}

and_false : (c x : Bool) → x ≡ false → (c && x) ≡ false
and_false true x h = h
and_false false x h = refl

module _ {K V A B : Type 0} (f : K → K → Bool) (g : V → V → Bool) where
  pub length_differs : (ps qs : List (Arc K A × Arc V B)) → length ps ≢ length qs → same_pairs f g ps qs ≡ false
  length_differs [] [] n = absurd (n refl)
  length_differs [] (q ∷ qs) n = refl
  length_differs (p ∷ ps) [] n = refl
  length_differs (p ∷ ps) (q ∷ qs) n = and_false (f (arc_value p.0) (arc_value q.0) && g (arc_value p.1) (arc_value q.1)) (same_pairs f g ps qs) (length_differs ps qs (λ e. n (ap suc e)))

  pub pairs_at : (i : ℕ) (ps qs : List (Arc K A × Arc V B)) (p q : Arc K A × Arc V B) → i < length ps → i < length qs → p ≡ get_or ps i p → q ≡ get_or qs i q
      → same_pairs f g (drop i ps) (drop i qs) ≡ ((f (arc_value p.0) (arc_value q.0) && g (arc_value p.1) (arc_value q.1)) && same_pairs f g (drop (suc i) ps) (drop (suc i) qs))
  pairs_at i [] qs p q h l e d = absurd (omega arith)
  pairs_at i (x ∷ xs) [] p q h l e d = absurd (omega arith)
  pairs_at zero (x ∷ xs) (y ∷ ys) p q h l e d = λ j. (f (arc_value (sym e j).0) (arc_value (sym d j).0) && g (arc_value (sym e j).1) (arc_value (sym d j).1)) && same_pairs f g xs ys
  pairs_at (suc i) (x ∷ xs) (y ∷ ys) p q h l e d = pairs_at i xs ys p q (omega arith) (omega arith) e d

  module _ (keys : IsEquality f) (values : IsEquality g) where
    -- they have the same keys and values
    pub pairs_same : (ps qs : List (Arc K A × Arc V B)) → same_pairs f g ps qs ≡ true → answered_in ps ≡ answered_in qs
    pairs_same [] [] e = refl
    pairs_same [] (q ∷ qs) e = cc
    pairs_same (p ∷ ps) [] e = cc
    pairs_same (p ∷ ps) (q ∷ qs) e =
        let a = and_parts (f (arc_value p.0) (arc_value q.0) && g (arc_value p.1) (arc_value q.1)) (same_pairs f g ps qs) e in
        let b = and_parts (f (arc_value p.0) (arc_value q.0)) (g (arc_value p.1) (arc_value q.1)) a.0 in
        let k = keys.same (arc_value p.0) (arc_value q.0) b.0 in
        let x = values.same (arc_value p.1) (arc_value q.1) b.1 in
        let r = pairs_same ps qs a.1 in
        λ i. record { keys = k i ∷ (r i).keys; values = x i ∷ (r i).values }

    same_is : (ps qs : List (Arc K A × Arc V B)) → keys_in ps ≡ keys_in qs → values_in ps ≡ values_in qs → same_pairs f g ps qs ≡ true
    same_is [] [] a b = refl
    same_is [] (q ∷ qs) a b = cc
    same_is (p ∷ ps) [] a b = cc
    same_is (p ∷ ps) (q ∷ qs) a b =
        let k : arc_value p.0 ≡ arc_value q.0 = cc in
        let x : arc_value p.1 ≡ arc_value q.1 = cc in
        let ks : keys_in ps ≡ keys_in qs = cc in
        let xs : values_in ps ≡ values_in qs = cc in
        let u : f (arc_value p.0) (arc_value q.0) ≡ true = subst (λ z. f (arc_value p.0) z ≡ true) k (keys.itself (arc_value p.0)) in
        let v : g (arc_value p.1) (arc_value q.1) ≡ true = subst (λ z. g (arc_value p.1) z ≡ true) x (values.itself (arc_value p.1)) in
        rw (u, v) (same_is ps qs ks xs)

    -- batches that differ make traces that differ
    pub traces_differ : (T S : List (Answered K V)) (i : ℕ) (ps qs : List (Arc K A × Arc V B)) (bs cs : List (Answered K V)) → drop i T ≡ answered_in ps ∷ bs → drop i S ≡ answered_in qs ∷ cs → same_pairs f g ps qs ≡ false → T ≢ S
    traces_differ T S i ps qs bs cs t s n e =
        let h : answered_in ps ∷ bs ≡ answered_in qs ∷ cs = sym t ∙ (ap (drop i) e ∙ s) in
        let b : answered_in ps ≡ answered_in qs = cc in
        let y = same_is ps qs (ap (λ a. a.keys) b) (ap (λ a. a.values) b) in
        let z : true ≡ false = sym y ∙ n in
        cc

    -- one more batch that is the same
    pub traces_same : (T S : List (Answered K V)) (i : ℕ) (ps qs : List (Arc K A × Arc V B)) (bs cs : List (Answered K V)) → take i T ≡ take i S → drop i T ≡ answered_in ps ∷ bs → drop i S ≡ answered_in qs ∷ cs → same_pairs f g ps qs ≡ true → take (i + 1) T ≡ take (i + 1) S
    traces_same T S i ps qs bs cs h t s y =
        take_one i T (answered_in ps) bs t ∙ ((λ j. h j ++ pairs_same ps qs y j ∷ []) ∙ sym (take_one i S (answered_in qs) cs s))
