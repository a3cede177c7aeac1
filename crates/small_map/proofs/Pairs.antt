-- As many numbers as values, side by side.
use Rattle.std.proofs.Common.{◌≡◌, ◌∙◌, ◌+◌, ◌++◌, ◌||◌, ℕ, Bool, false, nat_eq, List, [], ◌∷◌, Option, None, Some, is_some, length, refl, sym, ap, subst, arith}
use Rattle.std.proofs.lemmas.Cmp.{nat_eq_equiv}
use Rattle.std.specs.List.{zip, list_any, AllByRecursion, IsDistinct}
use Rattle.std.specs.Map.{lookup, keys_of, values_of}
use Rattle.std.proofs.lemmas.List.{length-append}
use Rattle.small_map.specs.Few.{ArePaired, AreFew, entries_in}
use Rattle.small_map.specs.declared.few.Side.{Side}
use Rattle.small_map.specs.declared.few.Side.TheVariants.{Zero, One, Two}
use Rattle.small_map.proofs.Apart.{none_apart}
use Rattle.std.proofs.lemmas.Map.Made.{keys_of-zip, is_some-lookup}
use Rattle.std.proofs.lemmas.Map.Keys.{IsDistinct-push}
use Rattle.std.proofs.lemmas.Map.Entries.{length-keys_of}

module _ {V : Type 0} (n : ℕ) (numbers : List ℕ) (values : List V) (left : length numbers ≡ n) (right : length values ≡ n) where
  pub numbers_of_pairs : numbers ≡ keys_of (zip numbers values)
  numbers_of_pairs = sym (keys_of-zip numbers values (right ∙ sym left))

  pub count_of_pairs : n ≡ length (zip numbers values)
  count_of_pairs = sym left ∙ (ap length numbers_of_pairs ∙ length-keys_of (zip numbers values))

  pub distinct_pairs : IsDistinct nat_eq numbers → IsDistinct nat_eq (keys_of (zip numbers values))
  distinct_pairs = subst (IsDistinct nat_eq) numbers_of_pairs

-- the values of the pairs
values_of_zip : {V : Type 0} (numbers : List ℕ) (values : List V) → length numbers ≡ length values → values ≡ values_of (zip numbers values)
values_of_zip [] [] e = refl
values_of_zip [] (v ∷ vs) e = cc
values_of_zip (k ∷ ks) [] e = cc
values_of_zip (k ∷ ks) (v ∷ vs) e = ap (λ l. v ∷ l) (values_of_zip ks vs (omega (arith, e)))

pub values_of_pairs : {V : Type 0} (n : ℕ) (numbers : List ℕ) (values : List V) → length numbers ≡ n → length values ≡ n → values ≡ values_of (zip numbers values)
values_of_pairs n numbers values left right = values_of_zip numbers values (left ∙ sym right)

-- one more pair, as the last
pub zip_more : {V : Type 0} (numbers : List ℕ) (values : List V) (m : ℕ) (v : V) → length numbers ≡ length values → zip (numbers ++ m ∷ []) (values ++ v ∷ []) ≡ zip numbers values ++ (m, v) ∷ []
zip_more [] [] m v e = refl
zip_more [] (w ∷ ws) m v e = cc
zip_more (k ∷ ks) [] m v e = cc
zip_more (k ∷ ks) (w ∷ ws) m v e = ap (λ l. (k, w) ∷ l) (zip_more ks ws m v (omega (arith, e)))

-- what stands in front of the last one
front_distinct : (ks : List ℕ) (m : ℕ) → IsDistinct nat_eq (ks ++ m ∷ []) → IsDistinct nat_eq ks
unfolding IsDistinct
front_distinct [] m d = tt
front_distinct (k ∷ ks) m d = (front_differs k ks m d.0, front_distinct ks m d.1)
  where
    front_differs : (k : ℕ) (ks : List ℕ) (m : ℕ) → AllByRecursion (λ y. nat_eq k y ≡ false) (ks ++ m ∷ []) → AllByRecursion (λ y. nat_eq k y ≡ false) ks
    front_differs k [] m a = tt
    front_differs k (j ∷ js) m a = (a.0, front_differs k js m a.1)

-- the last one is another
last_differs : (ks : List ℕ) (m k : ℕ) → AllByRecursion (λ y. nat_eq k y ≡ false) (ks ++ m ∷ []) → nat_eq m k ≡ false
last_differs [] m k a = nat_eq_equiv.symm m k ∙ a.0
last_differs (j ∷ js) m k a = last_differs js m k a.1

last_absent : (ks : List ℕ) (m : ℕ) → IsDistinct nat_eq (ks ++ m ∷ []) → list_any (nat_eq m) ks ≡ false
unfolding IsDistinct
last_absent [] m d = refl
last_absent (k ∷ ks) m d = ap (λ b. b || list_any (nat_eq m) ks) (last_differs ks m k d.0) ∙ last_absent ks m d.1

-- a look-up of what is not there
none_found : {V : Type 0} (test : ℕ → Bool) (es : List (ℕ × V)) → list_any test (keys_of es) ≡ false → lookup test es ≡ None
none_found test es n = not_some (lookup test es) (is_some-lookup test es ∙ n)
  where
    not_some : {X : Type 0} (o : Option X) → is_some o ≡ false → o ≡ None
    not_some None e = refl
    not_some (Some x) e = cc

none_there : {V : Type 0} (test : ℕ → Bool) (es : List (ℕ × V)) → lookup test es ≡ None → list_any test (keys_of es) ≡ false
none_there test es n = sym (is_some-lookup test es) ∙ ap is_some n

module _ {V : Type 0} (n k : ℕ) (step : k ≡ n + 1) (numbers more : List ℕ) (values others : List V) (m : ℕ) (v : V)
    (left : more ≡ numbers ++ m ∷ []) (right : others ≡ values ++ v ∷ []) where
  -- with one more
  pub more_pairs : ArePaired n numbers values → zip more others ≡ zip numbers values ++ (m, v) ∷ []
  more_pairs p = (λ i. zip (left i) (right i)) ∙ zip_more numbers values m v (p.0 ∙ sym p.1)

  pub more_paired : ArePaired n numbers values → lookup (nat_eq m) (zip numbers values) ≡ None → ArePaired k more others
  more_paired p a =
      let new : list_any (nat_eq m) numbers ≡ false = ap (list_any (nat_eq m)) (numbers_of_pairs n numbers values p.0 p.1) ∙ none_there (nat_eq m) (zip numbers values) a in (
        ap length left ∙ (length-append numbers (m ∷ []) ∙ (ap (λ l. l + 1) p.0 ∙ sym step)),
        ap length right ∙ (length-append values (v ∷ []) ∙ (ap (λ l. l + 1) p.1 ∙ sym step)),
        subst (IsDistinct nat_eq) (sym left) (IsDistinct-push nat_eq_equiv numbers m p.2 new),
      )

  -- without the last
  pub fewer_paired : ArePaired k more others → ArePaired n numbers values
  fewer_paired p =
      let a : length more ≡ length numbers + 1 = ap length left ∙ length-append numbers (m ∷ []) in
      let b : length others ≡ length values + 1 = ap length right ∙ length-append values (v ∷ []) in
      (omega (arith, p.0, step, a), omega (arith, p.1, step, b), front_distinct numbers m (subst (IsDistinct nat_eq) left p.2))

  pub last_is_absent : ArePaired k more others → lookup (nat_eq m) (zip numbers values) ≡ None
  last_is_absent p =
      let q = fewer_paired p in
      none_found (nat_eq m) (zip numbers values) (ap (list_any (nat_eq m)) (sym (numbers_of_pairs n numbers values q.0 q.1))
      ∙ last_absent numbers m (subst (IsDistinct nat_eq) left p.2))

-- what a `Few` has
pub few_distinct : {V : Type 0} (s : Side V) → AreFew s → IsDistinct nat_eq (keys_of (entries_in s))
few_distinct Zero f = none_apart
few_distinct (One numbers values) f = distinct_pairs 1 numbers values f.0 f.1 f.2
few_distinct (Two numbers values) f = distinct_pairs 2 numbers values f.0 f.1 f.2
