-- What the calls on a shelf do to its two parts.
use Rattle.std.proofs.Common.{◌≡◌, ℕ, ◌+◌, ◌<◌, ◌≤◌, Bool, true, false, ◌||◌, List, [], ◌∷◌, ◌++◌, length, map, take, drop, get_or, slice_get, eqb, eq-eqb, ◌&&◌, Option, Some, inl, inr, refl, sym, ap, ◌∙◌, subst, arith}
use Rattle.std.specs.Prelude.{IfSome, IfOk, IsOk, Result, Ok, Err, if◌then◌else◌}
use Rattle.indexmap.specs.IndexSet.{insert_key}
use Rattle.std.specs.Arc.{arc_value}
use Rattle.std.specs.Cmp.{first_so, second_so}
use Rattle.std.specs.List.{swap, swap_remove, list_any}
use Rattle.std.proofs.lemmas.Bool.{eqb-true, false≢true}
use Rattle.std.proofs.lemmas.Option.{slice_get_within, slice_get-get_or, same_Some}
use Rattle.std.proofs.lemmas.List.{drop_more}
use Rattle.std.proofs.lemmas.List.Edits.{length-swap}
use Rattle.std.proofs.lemmas.List.Sorted.{IsPermutation-swap_remove, length_permutation}
use Rattle.dice_key.specs.Lawful.{IsEquality}
use Rattle.core_laws.specs.Desk.{Loses}
use Rattle.dice_tasks.specs.Hands.{Stays}
use Rattle.dice_tasks.specs.declared.shelf.ReadyTask.{ReadyTask}
use Rattle.dice_tasks.specs.Shelves.{place_of}
use Rattle.dice_tasks.proofs.Lists.{loses_first}
use Rattle.dice_tasks.proofs.Parts.{goes_back, goes_away, goes_last, comes_first, stands_after, stands_before, none_there, parts}
use Rattle.lists.proofs.Distinct.{distinct_right}
use Rattle.lists.proofs.Members.{has_left, has_right}
use Rattle.lists.specs.Lists.{AreDistinct, Has}

one_fails : (a b : Bool) → (a ≡ true → ⊥) → b ≡ false → (a || b) ≡ false
one_fails true b h e = absurd (h refl)
one_fails false b h e = e

module _ {X Y : Type 0} (f : X → Y) where
  pub found_at : (xs : List X) (i : ℕ) (x : X) → slice_get xs i ≡ Some x → (i < length xs) × (x ≡ get_or xs i x)
  found_at xs i x e = let l = slice_get_within xs i x e in (l, same_Some _ _ (sym e ∙ slice_get-get_or xs i x l))

  -- where a thing of the second part is found
  pub found_after : (xs : List X) (r i : ℕ) (x : X) (p : Y) → AreDistinct (map f xs) → Has (map f (drop r xs)) p → slice_get xs i ≡ Some x → f x ≡ p → (r ≤ i) × (i < length xs) × (x ≡ get_or xs i x)
  found_after xs r i x p u h e q =
      let a = found_at xs i x e in
      (stands_after f xs r i x a.0 u (subst (λ (z : Y). Has (map f (drop r xs)) z) (sym q ∙ ap f a.1) h), a.0, a.1)

  -- where a thing of the first part is found
  pub found_before : (xs : List X) (r i : ℕ) (x : X) (p : Y) → AreDistinct (map f xs) → Has (map f (take r xs)) p → slice_get xs i ≡ Some x → f x ≡ p → (i < r) × (i < length xs) × (x ≡ get_or xs i x)
  found_before xs r i x p u h e q =
      let a = found_at xs i x e in
      (stands_before f xs r i x a.0 u (subst (λ (z : Y). Has (map f (take r xs)) z) (sym q ∙ ap f a.1) h), a.0, a.1)

  pub put_back_is : (xs ys : List X) (r i : ℕ) (x : X) (p : Y) → AreDistinct (map f xs) → Has (map f (drop r xs)) p → slice_get xs i ≡ Some x → f x ≡ p → ys ≡ swap xs i r → AreDistinct (map f ys) → (map f (take (r + 1) ys) ≡ map f (take r xs) ++ p ∷ []) × Loses p (map f (drop r xs)) (map f (drop (r + 1) ys))
  put_back_is xs ys r i x p u h e q k v =
      let a = found_after xs r i x p u h e q in
      let m : f (get_or xs i x) ≡ p = ap f (sym a.2) ∙ q in
      let b = goes_back f xs r i x a.0 a.1 u (subst (λ (z : List X). AreDistinct (map f z)) k v) in
      subst (λ (z : List X). (map f (take (r + 1) z) ≡ map f (take r xs) ++ p ∷ []) × Loses p (map f (drop r xs)) (map f (drop (r + 1) z))) (sym k)
      (subst (λ (w : Y). (map f (take (r + 1) (swap xs i r)) ≡ map f (take r xs) ++ w ∷ []) × Loses w (map f (drop r xs)) (map f (drop (r + 1) (swap xs i r)))) m b)

  pub take_away_is : (t : X → X → Bool) → ((x y : X) → f x ≡ f y → t x y ≡ true) → (xs ys : List X) (r i : ℕ) (x : X) (p : Y) → AreDistinct (map f xs) → Has (map f (drop r xs)) p → slice_get xs i ≡ Some x → f x ≡ p → ys ≡ swap_remove xs i x → list_any (t x) ys ≡ false → AreDistinct (map f ys) → (map f (take r ys) ≡ map f (take r xs)) × Loses p (map f (drop r xs)) (map f (drop r ys))
  take_away_is t says xs ys r i x p u h e q k n v =
      let a = found_after xs r i x p u h e q in
      let none : Has (map f (swap_remove xs i x)) (f x) → ⊥ = none_there f (t x) (f x) (λ y z. says x y (sym z)) (swap_remove xs i x) (ap (list_any (t x)) (sym k) ∙ n) in
      let b = goes_away f xs r i x a.0 a.1 a.2 u (subst (λ (z : List X). AreDistinct (map f z)) k v) none in
      subst (λ (z : List X). (map f (take r z) ≡ map f (take r xs)) × Loses p (map f (drop r xs)) (map f (drop r z))) (sym k)
      (subst (λ (w : Y). (map f (take r (swap_remove xs i x)) ≡ map f (take r xs)) × Loses w (map f (drop r xs)) (map f (drop r (swap_remove xs i x)))) q b)

  -- one fewer is left
  pub one_fewer : (xs ys : List X) (i : ℕ) (x : X) → slice_get xs i ≡ Some x → ys ≡ swap_remove xs i x → length ys + 1 ≡ length xs
  one_fewer xs ys i x e k =
      let a = found_at xs i x e in
      let n = length_permutation xs (x ∷ swap_remove xs i x) (IsPermutation-swap_remove xs i x a.0 a.1) in
      let m = ap length k in
      omega (arith, n, m)

  -- if nothing has the place, no test of it passes
  pub none_passes : (t : X → Bool) (p : Y) → ((x : X) → t x ≡ true → f x ≡ p) → (xs : List X) → (Has (map f xs) p → ⊥) → list_any t xs ≡ false
  none_passes t p means [] n = refl
  none_passes t p means (x ∷ xs) n = one_fails (t x) (list_any t xs) (λ q. n (inl (means x q))) (none_passes t p means xs (λ h. n (inr h)))

  pub put_in_is : (xs ys zs : List X) (r l : ℕ) (x : X) → r ≤ length xs → l ≡ length xs → ys ≡ xs ++ x ∷ [] → zs ≡ swap ys l r → AreDistinct (map f ys) → AreDistinct (map f zs) → (map f (take (r + 1) zs) ≡ map f (take r xs) ++ f x ∷ []) × Stays (map f (drop r xs)) (map f (drop (r + 1) zs))
  put_in_is xs ys zs r l x b e k m u v =
      let all : zs ≡ swap (xs ++ x ∷ []) (length xs) r = m ∙ (λ i. swap (k i) (e i) r) in
      subst (λ (z : List X). (map f (take (r + 1) z) ≡ map f (take r xs) ++ f x ∷ []) × Stays (map f (drop r xs)) (map f (drop (r + 1) z))) (sym all)
      (comes_first f xs r x b (subst (λ (z : List X). AreDistinct (map f z)) k u) (subst (λ (z : List X). AreDistinct (map f z)) all v))

  pub take_out_is : (t : X → X → Bool) → ((x y : X) → f x ≡ f y → t x y ≡ true) → (xs ys zs : List X) (r i : ℕ) (x y : X) (p : Y) → r < length xs → AreDistinct (map f xs) → Has (map f (take (r + 1) xs)) p → slice_get xs i ≡ Some x → f x ≡ p → ys ≡ swap xs i r → AreDistinct (map f ys) → slice_get ys r ≡ Some y → zs ≡ swap_remove ys r y → list_any (t y) zs ≡ false → AreDistinct (map f zs) → Loses p (map f (take (r + 1) xs)) (map f (take r zs)) × Stays (map f (drop (r + 1) xs)) (map f (drop r zs))
  take_out_is t says xs ys zs r i x y p b u h e q k v e2 k2 n w =
      let a = found_before xs (r + 1) i x p u h e q in
      let g = goes_last f xs r i x (omega (arith, a.0)) b u (subst (λ (z : List X). AreDistinct (map f z)) k v) in
      let long : r < length ys = subst (λ (z : List X). r < length z) (sym k) (rw (length-swap xs i r) b) in
      let c = found_at ys r y e2 in
      let same : y ≡ x = same_Some _ _ (sym e2 ∙ slice_get-get_or ys r x long) ∙ (ap (λ z. get_or z r x) k ∙ (g.1 ∙ sym a.2)) in
      let rest : drop (r + 1) ys ≡ drop (r + 1) xs = ap (drop (r + 1)) k ∙ g.0 in
      let split : drop r ys ≡ y ∷ drop (r + 1) ys = drop_more ys r y long ∙ ap (λ z. z ∷ drop (r + 1) ys) (sym c.1) in
      let tail : map f (drop r ys) ≡ f y ∷ map f (drop (r + 1) xs) = ap (map f) split ∙ ap (λ (z : List X). f y ∷ map f z) rest in
      let there : Has (map f (drop r ys)) (f y) = subst (λ (l : List Y). Has l (f y)) (sym tail) (inl refl) in
      let away = take_away_is t says ys zs r r y (f y) v there e2 refl k2 n w in
      let d : AreDistinct (f y ∷ map f (drop (r + 1) xs)) = subst AreDistinct tail (distinct_right (map f (take r ys)) (map f (drop r ys)) (subst AreDistinct (sym (parts f r ys)) v)) in
      let front : map f (take r zs) ≡ map f (take r (swap xs i r)) = away.0 ∙ ap (λ (z : List X). map f (take r z)) k in (
        subst (λ (l : List Y). Loses p (map f (take (r + 1) xs)) l) (sym front) (subst (λ (z : Y). Loses z (map f (take (r + 1) xs)) (map f (take r (swap xs i r)))) (ap f (sym a.2) ∙ q) g.2),
        loses_first (map f (drop (r + 1) xs)) (map f (drop r zs)) (f y) d (subst (λ (l : List Y). Loses (f y) l (map f (drop r zs))) tail away.1),
      )

  -- what stands in a part stands in the whole
  pub in_second : (r : ℕ) (xs : List X) (p : Y) → Has (map f (drop r xs)) p → Has (map f xs) p
  in_second r xs p h = subst (λ (l : List Y). Has l p) (parts f r xs) (has_right (map f (take r xs)) (map f (drop r xs)) p h)

  pub in_first : (r : ℕ) (xs : List X) (p : Y) → Has (map f (take r xs)) p → Has (map f xs) p
  in_first r xs p h = subst (λ (l : List Y). Has l p) (parts f r xs) (has_left (map f (take r xs)) (map f (drop r xs)) p h)

  -- a thing whose place is new goes last
  pub inserted : {E : Type 0} (t : X → X → Bool) → ((x y : X) → t x y ≡ true → f y ≡ f x) → (xs ys : List X) (x : X) (r : Result Bool E) → (Has (map f xs) (f x) → ⊥) → IsOk r → IfOk r (λ b. ys ≡ insert_key t xs x) → ys ≡ xs ++ x ∷ []
  inserted t means xs ys x (Ok b) n o k = k ∙ ap (λ c. if c then xs else (xs ++ x ∷ [])) (none_passes (t x) (f x) (means x) xs n)
  inserted t means xs ys x (Err e) n o k = absurd (false≢true o)

module _ {X : Type 0} where
  pub at_some : (P : X → Type 0) (o : Option X) (x : X) → o ≡ Some x → IfSome o P → P x
  at_some P o x e h = subst (λ (z : Option X). IfSome z P) e h

module _ {K : Type 0} (eq : K → K → Bool) (law : IsEquality eq) where
  -- a test of a version and key passes exactly if the place is that version and key
  pub place_from : (v : ℕ) (k : K) (x : ReadyTask K) → (eqb v x.version && eq k (arc_value x.key)) ≡ true → place_of x ≡ (v, k)
  place_from v k x h =
      let a : v ≡ x.version = eqb-true v x.version (first_so (eqb v x.version) (eq k (arc_value x.key)) h) in
      let b : k ≡ arc_value x.key = law.same k (arc_value x.key) (second_so (eqb v x.version) (eq k (arc_value x.key)) h) in
      λ i. (sym a i, sym b i)

  pub place_says : (v : ℕ) (k : K) (x : ReadyTask K) → place_of x ≡ (v, k) → (eqb v x.version && eq k (arc_value x.key)) ≡ true
  place_says v k x e =
      let a : v ≡ x.version = λ i. (sym e i).0 in
      let b : k ≡ arc_value x.key = λ i. (sym e i).1 in
      let c : eqb v x.version ≡ true = eq-eqb v x.version a in
      let d : eq k (arc_value x.key) ≡ true = subst (λ (z : K). eq k z ≡ true) b (law.itself k) in
      λ i. c i && d i

  abbrev pub ready_eq : ReadyTask K → ReadyTask K → Bool
  ready_eq x y = eqb x.version y.version && eq (arc_value x.key) (arc_value y.key)

  pub same_place : (x y : ReadyTask K) → place_of x ≡ place_of y → ready_eq x y ≡ true
  same_place x y e = place_says x.version (arc_value x.key) y (sym e)

  pub one_place : (x y : ReadyTask K) → ready_eq x y ≡ true → place_of y ≡ place_of x
  one_place x y h = place_from x.version (arc_value x.key) y h
