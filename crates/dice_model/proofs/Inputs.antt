-- The input is the value in the last commit that has one.
use Rattle.std.proofs.Common.{◌≡◌, ◌⊎◌, inl, inr, ℕ, Bool, true, false, List, [], ◌∷◌, ◌++◌, Some, None, unwrap_or, refl, sym, ap, ◌∙◌, subst}
use Rattle.std.specs.Map.{lookup, keys_of}
use Rattle.std.specs.List.{AllByRecursion}
use Rattle.dice_key.specs.Meaning.{Meaning}
use Rattle.dice_key.specs.Lawful.{IsEquality}
use Rattle.dice_key.specs.declared.universe.Kind.TheVariants.{Injected}
use Rattle.dice_model.specs.Log.{IsLog, IsCommit, input, version_of, last_value_of}
use Rattle.dice_model.specs.Eval.{HasValue}
use Rattle.dice_model.specs.Newest.{IsNewest, IsUnset}
use Rattle.dice_key.proofs.KeySets.{has_or_not}
use Rattle.lists.proofs.Each.{all_take}
use Rattle.lists.proofs.Members.{has_middle}
use Rattle.lists.specs.Lists.{AreDistinct, Has}

module _ {X : Type 0} where
  all_has : (P : X → Type 0) (xs : List X) (x : X) → AllByRecursion P xs → Has xs x → P x
  all_has P [] x a h = absurd h
  all_has P (y ∷ ys) x a (inl e) = subst P e a.0
  all_has P (y ∷ ys) x a (inr h) = all_has P ys x a.1 h

module _ {K V : Type 0} where
  key_has : (c : List (K × V)) (k : K) (x : V) → Has c (k, x) → Has (keys_of c) k
  key_has [] k x h = absurd h
  key_has (p ∷ c) k x (inl e) = inl (ap (λ q. q.0) e)
  key_has (p ∷ c) k x (inr h) = inr (key_has c k x h)

  key_value : (c : List (K × V)) (k : K) → Has (keys_of c) k → (x : V) × Has c (k, x)
  key_value [] k h = absurd h
  key_value (p ∷ c) k (inl e) = (p.1, inl (λ i. (e i, p.1)))
  key_value (p ∷ c) k (inr h) = let r = key_value c k h in (r.0, inr r.1)

  last_append : (t : K → Bool) (A B : List (List (K × V))) (y : V) → last_value_of t y (A ++ B) ≡ last_value_of t (last_value_of t y A) B
  last_append t [] B y = refl
  last_append t (a ∷ A) B y = last_append t A B (unwrap_or (lookup t a) y)

module _ {K V : Type 0} (eq : K → K → Bool) (law : IsEquality eq) where
  lookup_sets : (c : List (K × V)) (k : K) (x : V) → AreDistinct (keys_of c) → Has c (k, x) → lookup (eq k) c ≡ Some x
  lookup_sets [] k x d h = absurd h
  lookup_sets (p ∷ c) k x d (inl e) = let s : eq k p.0 ≡ true = ap (λ q. eq k q.0) e ∙ law.itself k in rw s (ap (λ q. Some q.1) e)
  lookup_sets (p ∷ c) k x d (inr h) = at (eq k p.0) refl (lookup_sets c k x d.1 h)
    where
      at : (r : Bool) → eq k p.0 ≡ r → lookup (eq k) c ≡ Some x → lookup (eq k) (p ∷ c) ≡ Some x
      at true e r = absurd (d.0 (subst (Has (keys_of c)) (law.same k p.0 e) (key_has c k x h)))
      at false e r = rw e r

  pub lookup_unset : (c : List (K × V)) (k : K) → (Has (keys_of c) k → ⊥) → lookup (eq k) c ≡ None
  lookup_unset [] k n = refl
  lookup_unset (p ∷ c) k n = at (eq k p.0) refl (lookup_unset c k (λ h. n (inr h)))
    where
      at : (r : Bool) → eq k p.0 ≡ r → lookup (eq k) c ≡ None → lookup (eq k) (p ∷ c) ≡ None
      at true e r = absurd (n (inl (sym (law.same k p.0 e))))
      at false e r = rw e r

  last_unset : (k : K) (y : V) (C : List (List (K × V))) → IsUnset k C → last_value_of (eq k) y C ≡ y
  last_unset k y [] u = refl
  last_unset k y (c ∷ C) u = let e = lookup_unset c k (u c (inl refl)) in rw e (last_unset k y C (λ d h. u d (inr h)))

  last_newest : (m : Meaning K V) (k : K) (x y : V) (C : List (List (K × V))) → IsLog m C → IsNewest k x C → last_value_of (eq k) y C ≡ x
  last_newest m k x y C l n =
      let among : Has C n.commit = subst (λ D. Has D n.commit) (sym n.parts) (has_middle n.earlier n.later n.commit) in
      let commit = all_has (IsCommit m) C n.commit l among in
      let e = lookup_sets n.commit k x commit.distinct n.sets in
      ap (last_value_of (eq k) y) n.parts ∙ (last_append (eq k) n.earlier (n.commit ∷ n.later) y ∙ rw e (last_unset k x n.later n.unset))

  pub newest_input : (m : Meaning K V) (C : List (List (K × V))) (v : ℕ) (k : K) (x : V) → IsLog m C → IsNewest k x (version_of C v) → input eq m C v k ≡ x
  newest_input m C v k x l n = last_newest m k x (m.absent k) (version_of C v) (all_take (IsCommit m) v C l) n

  pub unset_input : (m : Meaning K V) (C : List (List (K × V))) (v : ℕ) (k : K) → IsUnset k (version_of C v) → input eq m C v k ≡ m.absent k
  unset_input m C v k u = last_unset k (m.absent k) (version_of C v) u

  -- each key is set, or is not
  pub set_or_not : (k : K) (C : List (List (K × V))) → ((x : V) × IsNewest k x C) ⊎ IsUnset k C
  set_or_not k [] = inr (λ c h g. h)
  set_or_not k (c ∷ C) =
      elim (set_or_not k C) as (λ _. ((x : V) × IsNewest k x (c ∷ C)) ⊎ IsUnset k (c ∷ C)) [
        | inl n ↦ inl (n.0, record { earlier = c ∷ n.1.earlier; commit = n.1.commit; later = n.1.later; parts = ap (λ D. c ∷ D) n.1.parts; sets = n.1.sets; unset = n.1.unset })
        | inr u ↦ elim (has_or_not eq law (keys_of c) k) as (λ _. ((x : V) × IsNewest k x (c ∷ C)) ⊎ IsUnset k (c ∷ C)) [
          | inl h ↦ let r = key_value c k h in inl (r.0, record { earlier = []; commit = c; later = C; parts = refl; sets = r.1; unset = u })
          | inr f ↦ inr (λ d h g. elim h as (λ _. ⊥) [ inl e ↦ f (subst (λ b. Has (keys_of b) k) (sym e) g) | inr i ↦ u d i g ])
        ]
      ]

pub injected_value : {K V : Type 0} (eq : K → K → Bool) (m : Meaning K V) (C : List (List (K × V))) (v : ℕ) (k : K) → m.kind k ≡ Injected → HasValue eq m C v k (input eq m C v k)
injected_value eq m C v k e = record { depth = 1; gives = rw e refl }
