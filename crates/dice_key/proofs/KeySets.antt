-- Keys in lists, by a test that is true exactly of what is the same; and sets of pointers to keys, read without the pointers.
use Rattle.std.proofs.Common.{◌≡◌, ◌⊎◌, ◌||◌, ◌++◌, inl, inr, Bool, true, false, cond, List, [], ◌∷◌, refl, sym, ap, ◌∙◌}
use Rattle.std.specs.Arc.{arc_value, arc_with_value}
use Rattle.std.specs.declared.sync.Arc.{Arc}
use Rattle.std.specs.List.{list_any}
use Rattle.std.proofs.lemmas.Bool.{or_cases, or_left, or_right}
use Rattle.lists.specs.Lists.{Has}
use Rattle.dice_key.specs.Lawful.{IsEquality}

module _ {K : Type 0} (eq : K → K → Bool) (law : IsEquality eq) where
  pub turned_is : (a b : K) (r : Bool) → eq a b ≡ r → eq b a ≡ r
  turned_is a b true e = ap (λ c. eq b c) (law.same a b e) ∙ law.itself b
  turned_is a b false e = by_test (eq b a) refl
    where
      by_test : (r : Bool) → eq b a ≡ r → eq b a ≡ false
      by_test true f = let g : eq a b ≡ true = ap (λ c. eq a c) (law.same b a f) ∙ law.itself a in cc
      by_test false f = f

  pub turned : (a b : K) → eq a b ≡ eq b a
  turned a b = sym (turned_is a b (eq a b) refl)

  pub unequal : (a b : K) → (a ≡ b → ⊥) → eq a b ≡ false
  unequal a b n = by_test (eq a b) refl
    where
      by_test : (r : Bool) → eq a b ≡ r → eq a b ≡ false
      by_test true e = absurd (n (law.same a b e))
      by_test false e = e

  pub same_or_not : (a b : K) → (a ≡ b) ⊎ (a ≡ b → ⊥)
  same_or_not a b = by_test (eq a b) refl
    where
      by_test : (r : Bool) → eq a b ≡ r → (a ≡ b) ⊎ (a ≡ b → ⊥)
      by_test true e = inl (law.same a b e)
      by_test false e = inr (λ p. let f : false ≡ true = sym e ∙ (ap (eq a) (sym p) ∙ law.itself a) in cc)

  -- whether a key is one of these
  pub has_or_not : (ks : List K) (k : K) → Has ks k ⊎ (Has ks k → ⊥)
  has_or_not [] k = inr (λ h. h)
  has_or_not (q ∷ ks) k = elim (same_or_not q k) as (λ _. Has (q ∷ ks) k ⊎ (Has (q ∷ ks) k → ⊥)) [
    | inl e ↦ inl (inl e)
    | inr n ↦ elim (has_or_not ks k) as (λ _. Has (q ∷ ks) k ⊎ (Has (q ∷ ks) k → ⊥)) [
      | inl h ↦ inl (inr h)
      | inr m ↦ inr (λ h. elim h as (λ _. ⊥) [ inl e ↦ n e | inr g ↦ m g ])
    ]
  ]

  pub any_has : (ks : List K) (k : K) → list_any (eq k) ks ≡ true → Has ks k
  any_has [] k e = cc
  any_has (q ∷ ks) k e = elim (or_cases (eq k q) (list_any (eq k) ks) e) as (λ _. Has (q ∷ ks) k) [ inl p ↦ inl (sym (law.same k q p)) | inr p ↦ inr (any_has ks k p) ]

  pub has_any : (ks : List K) (k : K) → Has ks k → list_any (eq k) ks ≡ true
  has_any [] k h = absurd h
  has_any (q ∷ ks) k (inl e) = or_left (eq k q) (list_any (eq k) ks) (ap (eq k) e ∙ law.itself k)
  has_any (q ∷ ks) k (inr h) = or_right (eq k q) (list_any (eq k) ks) (has_any ks k h)

  -- one key more, at the end
  pub any_end : (q k : K) (ks : List K) → list_any (eq q) (ks ++ k ∷ []) ≡ cond (eq k q) true (list_any (eq q) ks)
  any_end q k [] = last (eq q k) (eq k q) (turned k q)
    where
      last : (a b : Bool) → b ≡ a → (a || false) ≡ cond b true false
      last true true e = refl
      last false false e = refl
      last true false e = cc
      last false true e = cc
  any_end q k (z ∷ zs) = ap (λ r. eq q z || r) (any_end q k zs) ∙ past (eq q z) (eq k q) (list_any (eq q) zs)
    where
      past : (a b r : Bool) → (a || cond b true r) ≡ cond b true (a || r)
      past true true r = refl
      past true false r = refl
      past false true r = refl
      past false false r = refl

module _ {K A : Type 0} (eq : K → K → Bool) where
  -- a key was added by a copy of its pointer
  pub noted : (a b : Arc K A) (old new : List (Arc K A)) → arc_value b ≡ arc_value a
      → ((q : Arc K A) → list_any (λ y. eq (arc_value q) (arc_value y)) new ≡ cond (eq (arc_value b) (arc_value q)) true (list_any (λ y. eq (arc_value q) (arc_value y)) old))
      → (q : K) → list_any (λ y. eq q (arc_value y)) new ≡ cond (eq (arc_value a) q) true (list_any (λ y. eq q (arc_value y)) old)
  noted a b old new e u q = u (arc_with_value a q) ∙ ap (λ k. cond (eq k q) true (list_any (λ y. eq q (arc_value y)) old)) e
