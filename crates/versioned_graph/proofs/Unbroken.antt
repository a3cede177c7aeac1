-- M has no gap.
use Rattle.std.proofs.Common.{◌≡◌, ◌≤◌, inl, inr, ℕ, Bool, true, not, nat_eq, List, Option, Some, None, arith, eqb-true}
use Rattle.std.proofs.lemmas.Bool.{eq-eqb, and_from, and_parts, or_cases, or_left, or_right}
use Rattle.dice_key.specs.Meaning.{Meaning, Answered}
use Rattle.dice_key.specs.declared.universe.Kind.{Kind}
use Rattle.dice_key.specs.declared.universe.Kind.TheVariants.{Injected, Computed, Projection}
use Rattle.injected.specs.Rounds.{stays}
use Rattle.version_ranges.specs.Rounds.{all_between}
use Rattle.version_ranges.proofs.Rounds.{between_up, from_between}
use Rattle.versioned_graph.specs.Entries.{Kept, if_injected, all_of, known_by, known, marked}
use Rattle.versioned_graph.proofs.Bools.{all_map}

-- a test that holds from one version up to another holds from there up to each between them
between_sooner : (f : ℕ → Bool) (v w u : ℕ) → v ≤ u → u ≤ w → all_between f v w ≡ true → all_between f v u ≡ true
between_sooner f v w u l n h = from_between f v u (λ z p q. between_up f v w h z p (omega arith)) (λ z p q. between_up f v w h z (omega arith) (omega arith))

module _ {K V : Type 0} (m : Meaning K V) (veq : V → V → Bool) (at : ℕ → K → V) (es : K → Option (Kept K V)) (v w u : ℕ) (l : v ≤ u) (n : u ≤ w) where
  known_sooner : (d : K) → known m veq at es v w d ≡ true → known m veq at es v u d ≡ true
  known_sooner d e = by_kinds (m.kind d) e
    where
      by_entry : (o : Option (Kept K V)) → known_by o v w ≡ true → known_by o v u ≡ true
      by_entry None q = q
      by_entry (Some f) q = between_sooner f.ranges v w u l n q

      by_kinds : (kd : Kind) → if_injected kd (stays veq (λ z. at z d) v w) (known_by (es d) v w) ≡ true → if_injected kd (stays veq (λ z. at z d) v u) (known_by (es d) v u) ≡ true
      by_kinds Injected q = between_sooner (λ z. veq (at z d) (at v d)) v w u l n q
      by_kinds Computed q = by_entry (es d) q
      by_kinds Projection q = by_entry (es d) q

  -- what is marked above the finished version is marked from there on
  pub marked_sooner : (x : V) (A : List (Answered K V)) → marked m veq at es v x A w ≡ true → marked m veq at es v x A u ≡ true
  marked_sooner x A e = elim (or_cases (nat_eq w v) _ e) as (λ _. marked m veq at es v x A u ≡ true) [
    | inl p ↦ or_left (nat_eq u v) _ (eq-eqb u v (let z = eqb-true w v p in omega arith))
    | inr q ↦ (let b = and_parts (not (m.is_transient x)) (all_of (known m veq at es v w) A) q in
        or_right (nat_eq u v) _ (and_from (not (m.is_transient x)) (all_of (known m veq at es v u) A) b.0 (all_map (known m veq at es v w) (known m veq at es v u) A known_sooner b.1)))
  ]
