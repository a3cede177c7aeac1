-- A list of things whose places are distinct, the first r of which are one part, and the others another.
use Rattle.std.proofs.Common.{◌≡◌, inl, inr, ℕ, zero, suc, ◌+◌, ◌-◌, ◌<◌, ◌≤◌, Bool, true, false, List, [], ◌∷◌, ◌++◌, length, map, take, drop, set, get_or, slice_get, Option, Some, None, refl, sym, ap, ◌∙◌, subst, arith}
use Rattle.std.specs.Prelude.{IfSome, IfNone}
use Rattle.std.specs.Option.{is_some}
use Rattle.std.specs.List.{swap, swap_remove, IsDistinct, AllByRecursion, list_any, position}
use Rattle.std.specs.List.Sorted.{IsPermutation}
use Rattle.std.proofs.lemmas.Bool.{false≢true, true≢false, or_left, or_right, cases_lt}
use Rattle.std.proofs.lemmas.List.{take-append-drop, map-append, take-set-le, drop-set-lt, take_more_set, take_more, length_push, take-append-le, get_or_push, length-set, get_or-set_same, take-take, drop_more, length-take, get_or-take}
use Rattle.std.proofs.lemmas.List.Quantifiers.{position-Some}
use Rattle.std.proofs.lemmas.Option.{slice_get_cases}
use Rattle.std.proofs.lemmas.List.Edits.{swap_is, length-swap}
use Rattle.std.proofs.lemmas.List.Sorted.{IsPermutation-swap, IsPermutation-swap_remove, IsPermutation-map, IsPermutation-sym, Contains-permutation}
use Rattle.std.proofs.lemmas.Map.Keys.{IsDistinct-head, IsDistinct-tail}
use Rattle.core_laws.specs.Desk.{Loses}
use Rattle.dice_tasks.specs.Hands.{Gains, Stays}
use Rattle.dice_tasks.proofs.Lists.{Same, moves_left, leaves_right, comes_between, loses_last, same_front, goes_over}
use Rattle.lists.proofs.Distinct.{apart, distinct_left}
use Rattle.lists.specs.Lists.{AreDistinct, Has}

module _ {X : Type 0} where
  has_get : (xs : List X) (i : ℕ) (d : X) → i < length xs → Has xs (get_or xs i d)
  has_get [] i d l = absurd (omega arith)
  has_get (x ∷ xs) zero d l = inl refl
  has_get (x ∷ xs) (suc i) d l = inr (has_get xs i d (omega arith))

  has_at : (xs : List X) (x : X) → Has xs x → (i : ℕ) × (i < length xs) × (get_or xs i x ≡ x)
  has_at [] x h = absurd h
  has_at (y ∷ xs) x (inl e) = (0, omega arith, e)
  has_at (y ∷ xs) x (inr h) = let r = has_at xs x h in (suc r.0, omega arith, r.2)

  moves_over : (xs ys : List X) (x : X) → IsPermutation xs ys → Has xs x → Has ys x
  moves_over xs ys x p h =
      let c = Contains-permutation xs ys x p (has_at xs x h) in
      subst (λ z. Has ys z) c.2 (has_get ys c.0 x c.1)

  -- a list in another order has the same elements
  pub same_order : (xs ys : List X) → IsPermutation xs ys → Same xs ys
  same_order xs ys p = record { there = λ x h. moves_over xs ys x p h; back = λ x h. moves_over ys xs x (IsPermutation-sym xs ys p) h }

module _ {X Y : Type 0} (f : X → Y) where
  pub same_places : (xs ys : List X) → IsPermutation xs ys → Same (map f xs) (map f ys)
  same_places xs ys p = same_order (map f xs) (map f ys) (IsPermutation-map f xs ys p)

  -- the whole by its two parts
  pub parts : (r : ℕ) (xs : List X) → map f (take r xs) ++ map f (drop r xs) ≡ map f xs
  parts r xs = sym (map-append f (take r xs) (drop r xs)) ∙ ap (map f) (take-append-drop r xs)

  -- things that are apart by a test that says says to things of one place have distinct places
  pub distinct_places : (e : X → X → Bool) → ((x y : X) → f x ≡ f y → e x y ≡ true) → (xs : List X) → IsDistinct e xs → AreDistinct (map f xs)
  distinct_places e says [] d = tt
  distinct_places e says (x ∷ xs) d = (λ h. clash xs (IsDistinct-head e x xs d) h, distinct_places e says xs (IsDistinct-tail e x xs d))
    where
      clash : (ys : List X) → AllByRecursion (λ y. e x y ≡ false) ys → Has (map f ys) (f x) → ⊥
      clash [] a h = h
      clash (y ∷ ys) a (inl q) = false≢true (sym a.0 ∙ says x y (sym q))
      clash (y ∷ ys) a (inr h) = clash ys a.1 h

  -- the first r + 1 after the exchange of the i-th and the r-th
  taken_more : (xs : List X) (r i : ℕ) (d : X) → r ≤ i → i < length xs → take (r + 1) (swap xs i r) ≡ take r xs ++ get_or xs i d ∷ []
  taken_more xs r i d b l =
      let longer : r < length (set xs i (get_or xs r d)) = rw (length-set xs i (get_or xs r d)) (omega arith) in
      ap (take (r + 1)) (sym (swap_is xs i r d l (omega arith)))
      ∙ take_more_set (set xs i (get_or xs r d)) r (get_or xs i d) longer
      ∙ ap (λ l. l ++ get_or xs i d ∷ []) (take-set-le r xs i (get_or xs r d) b)

  -- the i-th, which stands in the second part, goes to the end of the first
  pub goes_back : (xs : List X) (r i : ℕ) (d : X) → r ≤ i → i < length xs → AreDistinct (map f xs) → AreDistinct (map f (swap xs i r)) → (map f (take (r + 1) (swap xs i r)) ≡ map f (take r xs) ++ f (get_or xs i d) ∷ []) × Loses (f (get_or xs i d)) (map f (drop r xs)) (map f (drop (r + 1) (swap xs i r)))
  goes_back xs r i d b l u v =
      let ys : List X = swap xs i r in
      let p : Y = f (get_or xs i d) in
      let front : map f (take (r + 1) ys) ≡ map f (take r xs) ++ p ∷ [] = ap (map f) (taken_more xs r i d b l) ∙ map-append f (take r xs) (get_or xs i d ∷ []) in
      let whole : (map f (take r xs) ++ p ∷ []) ++ map f (drop (r + 1) ys) ≡ map f ys = ap (λ l. l ++ map f (drop (r + 1) ys)) (sym front) ∙ parts (r + 1) ys in
      let same : Same (map f xs) (map f ys) = same_places xs ys (IsPermutation-swap xs ys i r l (omega arith) refl) in
      (front, moves_left (map f (take r xs)) (map f (drop r xs)) (map f (drop (r + 1) ys)) p (subst AreDistinct (sym (parts r xs)) u) (subst AreDistinct (sym whole) v) (rw (parts r xs, whole) same))

  -- if no thing passes a test that says yes to each thing of a place, none has that place
  pub none_there : (t : X → Bool) (p : Y) → ((x : X) → f x ≡ p → t x ≡ true) → (xs : List X) → list_any t xs ≡ false → Has (map f xs) p → ⊥
  none_there t p says [] n h = h
  none_there t p says (x ∷ xs) n (inl q) = true≢false (sym (or_left (t x) (list_any t xs) (says x q)) ∙ n)
  none_there t p says (x ∷ xs) n (inr h) = none_there t p says xs (by_cases (list_any t xs) refl) h
    where
      by_cases : (b : Bool) → list_any t xs ≡ b → list_any t xs ≡ false
      by_cases true q = absurd (true≢false (sym (or_right (t x) (list_any t xs) q) ∙ n))
      by_cases false q = q

  -- the first that passes a test of a place has that place
  pub found_there : (t : X → Bool) (p : Y) → ((x : X) → t x ≡ true → f x ≡ p) → (xs : List X) (i : ℕ) → i < length xs → position t xs ≡ Some i → (x : X) × (slice_get xs i ≡ Some x) × (f x ≡ p)
  found_there t p means xs i l e = elim (slice_get_cases xs i).1 [
    | inl c ↦ (c.0, c.2, means c.0 (ap t (sym c.3) ∙ (position-Some t xs i c.0 e).1))
    | inr c ↦ absurd (omega arith)
  ]

  -- what stands in the second part has an index there
  pub stands_after : (xs : List X) (r i : ℕ) (d : X) → i < length xs → AreDistinct (map f xs) → Has (map f (drop r xs)) (f (get_or xs i d)) → r ≤ i
  stands_after xs r i d l u h = elim (cases_lt i r) [
    | inr b ↦ b
    | inl q ↦
        let m : i < length (take r xs) = rw (length-take r xs) (omega arith) in
        absurd (apart (map f (take r xs)) (map f (drop r xs)) (f (get_or xs i d)) (subst AreDistinct (sym (parts r xs)) u) (has_map (take r xs) (get_or xs i d) (subst (λ z. Has (take r xs) z) (get_or-take r xs i d q) (has_get (take r xs) i d m))) h)
  ]
    where
      has_map : (ys : List X) (x : X) → Has ys x → Has (map f ys) (f x)
      has_map [] x k = k
      has_map (y ∷ ys) x (inl e) = inl (ap f e)
      has_map (y ∷ ys) x (inr k) = inr (has_map ys x k)

  -- the i-th, which stands in the second part, is taken out
  pub goes_away : (xs : List X) (r i : ℕ) (x : X) → r ≤ i → i < length xs → x ≡ get_or xs i x → AreDistinct (map f xs) → AreDistinct (map f (swap_remove xs i x)) → (Has (map f (swap_remove xs i x)) (f x) → ⊥) → (map f (take r (swap_remove xs i x)) ≡ map f (take r xs)) × Loses (f x) (map f (drop r xs)) (map f (drop r (swap_remove xs i x)))
  goes_away xs r i x b l e u v n =
      let ys : List X = swap_remove xs i x in
      let front : map f (take r ys) ≡ map f (take r xs) = ap (map f) (take-take r (length xs - 1) (set xs i (get_or xs (length xs - 1) x)) (omega arith) ∙ take-set-le r xs i (get_or xs (length xs - 1) x) b) in
      let whole : map f (take r xs) ++ map f (drop r ys) ≡ map f ys = ap (λ l. l ++ map f (drop r ys)) (sym front) ∙ parts r ys in
      let same : Same (map f xs) (f x ∷ map f ys) = same_places xs (x ∷ ys) (IsPermutation-swap_remove xs i x l e) in
      (front, leaves_right (map f (take r xs)) (map f (drop r xs)) (map f (drop r ys)) (f x) (subst AreDistinct (sym (parts r xs)) u) (rw whole (n, v)) (rw (parts r xs, whole) same))

  -- a new last one goes to the end of the first part
  pub comes_first : (xs : List X) (r : ℕ) (x : X) → r ≤ length xs → AreDistinct (map f (xs ++ x ∷ [])) → AreDistinct (map f (swap (xs ++ x ∷ []) (length xs) r)) → (map f (take (r + 1) (swap (xs ++ x ∷ []) (length xs) r)) ≡ map f (take r xs) ++ f x ∷ []) × Stays (map f (drop r xs)) (map f (drop (r + 1) (swap (xs ++ x ∷ []) (length xs) r)))
  comes_first xs r x b u v =
      let zs : List X = xs ++ x ∷ [] in
      let n : length zs ≡ length xs + 1 = length_push xs x in
      let ys : List X = swap zs (length xs) r in
      let first : take (r + 1) ys ≡ take r xs ++ x ∷ [] = taken_more zs r (length xs) x b (omega arith) ∙ (λ i. take-append-le r xs (x ∷ []) b i ++ get_or_push xs x x (length xs) refl i ∷ []) in
      let front : map f (take (r + 1) ys) ≡ map f (take r xs) ++ f x ∷ [] = ap (map f) first ∙ map-append f (take r xs) (x ∷ []) in
      let whole : (map f (take r xs) ++ f x ∷ []) ++ map f (drop (r + 1) ys) ≡ map f ys = ap (λ l. l ++ map f (drop (r + 1) ys)) (sym front) ∙ parts (r + 1) ys in
      let before : (map f (take r xs) ++ map f (drop r xs)) ++ f x ∷ [] ≡ map f zs = ap (λ l. l ++ f x ∷ []) (parts r xs) ∙ sym (map-append f xs (x ∷ [])) in
      let same : Same (map f zs) (map f ys) = same_places zs ys (IsPermutation-swap zs ys (length xs) r (omega arith) (omega arith) refl) in
      (front, comes_between (map f (take r xs)) (map f (drop r xs)) (map f (drop (r + 1) ys)) (f x) (subst AreDistinct (sym before) u) (subst AreDistinct (sym whole) v) (rw (before, whole) same))

  -- the i-th, which stands in the first part, changes its place with the last of that part
  pub goes_last : (xs : List X) (r i : ℕ) (d : X) → i ≤ r → r < length xs → AreDistinct (map f xs) → AreDistinct (map f (swap xs i r)) → (drop (r + 1) (swap xs i r) ≡ drop (r + 1) xs) × (get_or (swap xs i r) r d ≡ get_or xs i d) × Loses (f (get_or xs i d)) (map f (take (r + 1) xs)) (map f (take r (swap xs i r)))
  goes_last xs r i d b l u v =
      let y : X = get_or xs r d in
      let p : X = get_or xs i d in
      let ys : List X = swap xs i r in
      let is : set (set xs i y) r p ≡ ys = swap_is xs i r d (omega arith) l in
      let longer : r < length (set xs i y) = rw (length-set xs i y) l in
      let rest : drop (r + 1) ys ≡ drop (r + 1) xs = ap (drop (r + 1)) (sym is) ∙ drop-set-lt (r + 1) (set xs i y) r p (omega arith) ∙ drop-set-lt (r + 1) xs i y (omega arith) in
      let last : get_or ys r d ≡ p = ap (λ l. get_or l r d) (sym is) ∙ get_or-set_same (set xs i y) r p d longer in
      let long : r < length ys = rw (length-swap xs i r) l in
      let front : map f (take (r + 1) ys) ≡ map f (take r ys) ++ f p ∷ [] = ap (map f) (take_more ys r d long ∙ ap (λ z. take r ys ++ z ∷ []) last) ∙ map-append f (take r ys) (p ∷ []) in
      let whole : (map f (take r ys) ++ f p ∷ []) ++ map f (drop (r + 1) xs) ≡ map f ys = (λ k. sym front k ++ map f (sym rest k)) ∙ parts (r + 1) ys in
      let same : Same (map f xs) (map f ys) = same_places xs ys (IsPermutation-swap xs ys i r (omega arith) l refl) in
      let A : List Y = map f (take (r + 1) xs) in
      let D : List Y = map f (take r ys) ++ f p ∷ [] in
      let B : List Y = map f (drop (r + 1) xs) in
      let w : AreDistinct (D ++ B) = subst AreDistinct (sym whole) v in
      (rest, last, loses_last A (map f (take r ys)) (f p) (distinct_left D B w) (same_front A D B (subst AreDistinct (sym (parts (r + 1) xs)) u) w (rw (parts (r + 1) xs, whole) same)))

  -- the last of the first part goes to the second
  pub goes_out : (xs : List X) (r : ℕ) (d : X) → r < length xs → AreDistinct (map f xs) → (map f (take (r + 1) xs) ≡ map f (take r xs) ++ f (get_or xs r d) ∷ []) × Gains (f (get_or xs r d)) (map f (drop (r + 1) xs)) (map f (drop r xs))
  goes_out xs r d l u =
      let p : Y = f (get_or xs r d) in
      let front : map f (take (r + 1) xs) ≡ map f (take r xs) ++ p ∷ [] = ap (map f) (take_more xs r d l) ∙ map-append f (take r xs) (get_or xs r d ∷ []) in
      let rest : map f (drop r xs) ≡ p ∷ map f (drop (r + 1) xs) = ap (map f) (drop_more xs r d l) in
      let whole : (map f (take r xs) ++ p ∷ []) ++ map f (drop (r + 1) xs) ≡ map f xs = ap (λ l. l ++ map f (drop (r + 1) xs)) (sym front) ∙ parts (r + 1) xs in
      (front, rw rest (goes_over (map f (take r xs)) (map f (drop (r + 1) xs)) p (subst AreDistinct (sym whole) u)))

  -- the index that a search by a test of a place gives
  pub index_some : (t : X → Bool) (p : Y) → ((x : X) → t x ≡ true → f x ≡ p) → (xs : List X) (o : Option ℕ) → o ≡ position t xs → IfSome o (λ i. i < length xs) → IfSome o (λ i. (x : X) × (slice_get xs i ≡ Some x) × (f x ≡ p))
  index_some t p means xs None e w = tt
  index_some t p means xs (Some i) e w = found_there t p means xs i w (sym e)

  pub index_none : (t : X → Bool) (p : Y) → ((x : X) → f x ≡ p → t x ≡ true) → (xs : List X) (o : Option ℕ) → is_some o ≡ list_any t xs → IfNone o (Has (map f xs) p → ⊥)
  index_none t p says xs None e = λ h. none_there t p says xs (sym e) h
  index_none t p says xs (Some i) e = tt

  -- what stands in the first part has an index there
  pub stands_before : (xs : List X) (r i : ℕ) (d : X) → i < length xs → AreDistinct (map f xs) → Has (map f (take r xs)) (f (get_or xs i d)) → i < r
  stands_before xs r i d l u h = elim (cases_lt i r) [
    | inl q ↦ q
    | inr b ↦ absurd (apart (map f (take r xs)) (map f (drop r xs)) (f (get_or xs i d)) (subst AreDistinct (sym (parts r xs)) u) h (has_later xs r i d b l))
  ]
    where
      has_later : (ys : List X) (n j : ℕ) (x : X) → n ≤ j → j < length ys → Has (map f (drop n ys)) (f (get_or ys j x))
      has_later [] n j x b m = absurd (omega arith)
      has_later (y ∷ ys) zero zero x b m = inl refl
      has_later (y ∷ ys) (suc n) zero x b m = absurd (omega arith)
      has_later (y ∷ ys) zero (suc j) x b m = inr (has_later ys zero j x (omega arith) (omega arith))
      has_later (y ∷ ys) (suc n) (suc j) x b m = has_later ys n j x (omega arith) (omega arith)
