-- Lists in which no two elements are equal.
use Rattle.std.proofs.Common.{◌≡◌, ◌||◌, Bool, true, false, cond, List, [], ◌∷◌, ◌++◌, refl, sym, ap, subst, ◌∙◌, if◌then◌else◌}
use Rattle.std.proofs.lemmas.List.{append-nil, append_assoc}
use Rattle.std.proofs.lemmas.List.Folds.{list_any-append}
use Rattle.std.proofs.lemmas.Map.Steps.{list_any_congr}
use Rattle.std.specs.Cmp.{IsEquivalence}
use Rattle.std.specs.List.{AllByRecursion, IsDistinct, list_any}
use Rattle.indexmap.specs.IndexSet.{insert_all, insert_key}

-- none are
pub distinct_none : {T : Type 0} (eq : T → T → Bool) (xs : List T) → xs ≡ [] → IsDistinct eq xs
unfolding IsDistinct
distinct_none eq xs e = subst (IsDistinct eq) (sym e) tt

-- one is
pub distinct_one : {T : Type 0} (eq : T → T → Bool) (x : T) → IsDistinct eq (x ∷ [])
unfolding IsDistinct
distinct_one eq x = (tt, tt)

module _ {T : Type 0} {eq : T → T → Bool} (laws : IsEquivalence eq) where
  -- one of them differs from each in front of it
  pub differs_from : (x k : T) (ks xs : List T) → AllByRecursion (λ y. eq k y ≡ false) (ks ++ x ∷ xs) → eq x k ≡ false
  differs_from x k [] xs d = laws.symm x k ∙ d.0
  differs_from x k (y ∷ ks) xs d = differs_from x k ks xs d.1

  pub absent : (x : T) (ks xs : List T) → IsDistinct eq (ks ++ x ∷ xs) → list_any (eq x) ks ≡ false
  unfolding IsDistinct
  absent x [] xs d = refl
  absent x (k ∷ ks) xs d = ap (λ b. b || list_any (eq x) ks) (differs_from x k ks xs d.0) ∙ absent x ks xs d.1

  -- inserted one by one, all of them come in
  pub all_come_in : (ks xs : List T) → IsDistinct eq (ks ++ xs) → insert_all eq ks xs ≡ ks ++ xs
  all_come_in ks [] d = sym (append-nil ks)
  all_come_in ks (x ∷ xs) d =
      ap (λ b. insert_all eq (if b then ks else ks ++ x ∷ []) xs) (absent x ks xs d)
      ∙ (all_come_in (ks ++ x ∷ []) xs (subst (IsDistinct eq) (sym (append_assoc ks (x ∷ []) xs)) d)
      ∙ append_assoc ks (x ∷ []) xs)

  -- and one more that is equal to none comes last
  pub one_more : (xs : List T) (x : T) → IsDistinct eq xs → list_any (eq x) xs ≡ false → insert_key eq (insert_all eq [] xs) x ≡ xs ++ x ∷ []
  one_more xs x d n = ap (λ l. insert_key eq l x) (all_come_in [] xs d) ∙ ap (λ b. if b then xs else xs ++ x ∷ []) n

  -- after a value came in, what is equal to it is there, and all else is there if it was
  pub updated : (xs : List T) (x q : T) → list_any (eq q) (insert_key eq xs x) ≡ cond (eq x q) true (list_any (eq q) xs)
  updated xs x q = by_tests (list_any (eq x) xs) (eq x q) refl refl
    where
      last : (a b c : Bool) → b ≡ c → (a || (b || false)) ≡ cond c true a
      last true true true e = refl
      last true true false e = cc
      last true false true e = cc
      last true false false e = refl
      last false true true e = refl
      last false true false e = cc
      last false false true e = cc
      last false false false e = refl

      by_tests : (there same : Bool) → list_any (eq x) xs ≡ there → eq x q ≡ same → list_any (eq q) (if there then xs else xs ++ x ∷ []) ≡ cond same true (list_any (eq q) xs)
      by_tests true true a s = list_any_congr laws q x xs (laws.symm q x ∙ s) ∙ a
      by_tests true false a s = refl
      by_tests false true a s = list_any-append (eq q) xs (x ∷ []) ∙ last (list_any (eq q) xs) (eq q x) true (laws.symm q x ∙ s)
      by_tests false false a s = list_any-append (eq q) xs (x ∷ []) ∙ last (list_any (eq q) xs) (eq q x) false (laws.symm q x ∙ s)
