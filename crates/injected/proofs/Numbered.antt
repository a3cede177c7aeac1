-- Sets that name their values by number, place by place.
use Rattle.std.proofs.Common.{◌≡◌, ◌≤◌, ◌<◌, ◌-◌, ℕ, zero, suc, Bool, true, false, cond, leb, List, [], ◌∷◌, ◌++◌, length, get_or, Option, Some, refl, ap, sym, ◌∙◌, subst, inl, inr, arith}
use Rattle.std.specs.Prelude.{slice_get, nat_eq}
use Rattle.std.specs.Arc.{arc_value}
use Rattle.std.specs.declared.sync.Arc.{Arc}
use Rattle.std.specs.Option.{option_eq}
use Rattle.std.proofs.lemmas.Bool.{cases_lt}
use Rattle.std.proofs.lemmas.List.{append_assoc}
use Rattle.std.proofs.Common.{length-append}
use Rattle.injected.specs.History.{value_at, newest_of, FirstAbove, IsRising}
use Rattle.injected.specs.Numbers.{pick, sets_of, tests, AllNumbered, AreBegun, equal_at}
use Rattle.injected.proofs.Lookups.{position_of}
use Rattle.std.specs.List.{IsDistinct, position}
use Rattle.dice_key.specs.Lawful.{IsEquality}
use Rattle.injected.proofs.Histories.{value_here, value_before, newest_here}
use Rattle.lists.proofs.Places.{get_longer}

got : {X : Type 0} (xs : List X) (i : ℕ) → i < length xs → (x : X) × (slice_get xs i ≡ Some x)
got [] i l = absurd (omega arith)
got (x ∷ xs) zero l = (x, refl)
got (x ∷ xs) (suc i) l = got xs i (omega arith)

module _ {V B : Type 0} (xs : List (Arc V B)) where
  head : (s : ℕ × ℕ) (ss : List (ℕ × ℕ)) (x : Arc V B) → slice_get xs s.1 ≡ Some x → sets_of xs (s ∷ ss) ≡ (s.0, arc_value x) ∷ sets_of xs ss
  head s ss x e = ap (λ o. pick s.0 o ++ sets_of xs ss) e

  pub length-sets : (ss : List (ℕ × ℕ)) → AllNumbered (length xs) ss → length (sets_of xs ss) ≡ length ss
  length-sets [] n = refl
  length-sets (s ∷ ss) n =
      let x = got xs s.1 n.0 in
      ap length (head s ss x.0 x.1) ∙ ap suc (length-sets ss n.1)

  -- the set at a place has the version there, and the value that the number there names
  pub place : (ss : List (ℕ × ℕ)) → AllNumbered (length xs) ss → (i : ℕ) (d : ℕ × ℕ) (e : ℕ × V) (x : Arc V B) → i < length ss → slice_get xs (get_or ss i d).1 ≡ Some x → get_or (sets_of xs ss) i e ≡ ((get_or ss i d).0, arc_value x)
  place [] n i d e x l h = absurd (omega arith)
  place (s ∷ ss) n zero d e x l h = ap (λ ts. get_or ts 0 e) (head s ss x h)
  place (s ∷ ss) n (suc i) d e x l h =
      let y = got xs s.1 n.0 in
      ap (λ ts. get_or ts (suc i) e) (head s ss y.0 y.1) ∙ place ss n.1 i d e x (omega arith) h

  pub numbered_at : (ss : List (ℕ × ℕ)) → AllNumbered (length xs) ss → (i : ℕ) (d : ℕ × ℕ) → i < length ss → (get_or ss i d).1 < length xs
  numbered_at [] n i d l = absurd (omega arith)
  numbered_at (s ∷ ss) n zero d l = n.0
  numbered_at (s ∷ ss) n (suc i) d l = numbered_at ss n.1 i d (omega arith)

  pub version_at : (ss : List (ℕ × ℕ)) → AllNumbered (length xs) ss → (i : ℕ) (d : ℕ × ℕ) (e : ℕ × V) → i < length ss → (get_or (sets_of xs ss) i e).0 ≡ (get_or ss i d).0
  version_at ss n i d e l =
      let x = got xs (get_or ss i d).1 (numbered_at ss n i d l) in
      ap (λ (s : ℕ × V). s.0) (place ss n i d e x.0 l x.1)

  -- the versions rise, whatever the numbers name
  pub rising_numbers : (ss : List (ℕ × ℕ)) → AllNumbered (length xs) ss → IsRising (sets_of xs ss) → IsRising ss
  rising_numbers [] n r = tt
  rising_numbers (s ∷ []) n r = (tt, tt)
  rising_numbers (s ∷ t ∷ ss) n r =
      let x = got xs s.1 n.0 in
      let y = got xs t.1 n.1.0 in
      let e : sets_of xs (t ∷ ss) ≡ (t.0, arc_value y.0) ∷ sets_of xs ss = head t ss y.0 y.1 in
      let h : IsRising ((s.0, arc_value x.0) ∷ sets_of xs (t ∷ ss)) = subst IsRising (head s (t ∷ ss) x.0 x.1) r in
      let first : s.0 < t.0 = subst (FirstAbove s.0) e h.0 in
      (first, rising_numbers (t ∷ ss) n.1 h.1)

  -- if the first k versions lie at or below v, and no other
  pub value_of_last : (a : V) (ss : List (ℕ × ℕ)) (k v : ℕ) (d : ℕ × ℕ) (x : Arc V B) → AllNumbered (length xs) ss → IsRising (sets_of xs ss) → 0 < k → k ≤ length ss → (get_or ss (k - 1) d).0 ≤ v → (k < length ss → v < (get_or ss k d).0) → slice_get xs (get_or ss (k - 1) d).1 ≡ Some x → arc_value x ≡ value_at a (sets_of xs ss) v
  value_of_last a ss k v d x n r p l low high e =
      let size = length-sets ss n in
      let last : k - 1 < length ss = omega arith in
      let at = place ss n (k - 1) d (0, a) x last e in
      sym (value_here a (sets_of xs ss) k v (0, a) r p (omega arith) (subst (λ (s : ℕ × V). s.0 ≤ v) (sym at) low) (λ h. subst (λ w. v < w) (sym (version_at ss n k d (0, a) (omega arith))) (high (omega arith)))
      ∙ ap (λ (s : ℕ × V). s.1) at)

  pub newest_of_last : (a : V) (ss : List (ℕ × ℕ)) (d : ℕ × ℕ) (x : Arc V B) → AllNumbered (length xs) ss → 0 < length ss → slice_get xs (get_or ss (length ss - 1) d).1 ≡ Some x → arc_value x ≡ newest_of a (sets_of xs ss)
  newest_of_last a ss d x n p e =
      let size = length-sets ss n in
      let here = newest_here a (sets_of xs ss) (0, a) (omega arith) in
      let last : length ss - 1 < length ss = omega arith in
      let at = place ss n (length ss - 1) d (0, a) x last e in
      sym (here ∙ (ap (λ i. (get_or (sets_of xs ss) (i - 1) (0, a)).1) size ∙ ap (λ (s : ℕ × V). s.1) at))

-- if the first k versions lie at or below v, and no other: the number after them is the place of
-- the value at v among the values
module _ {V B : Type 0} (xs : List (Arc V B)) (ss : List (ℕ × ℕ)) (named : AllNumbered (length xs) ss) (rising : IsRising (sets_of xs ss)) (a : V) (v k : ℕ) (begun : AreBegun v ss k) where
  pub value_of_begun : k ≡ 0 → a ≡ value_at a (sets_of xs ss) v
  value_of_begun e = sym (value_before a (sets_of xs ss) v (0, a) rising (λ l.
      let many = length-sets xs ss named in
      let first : v < (get_or ss 0 (0, 0)).0 = subst (λ n. v < (get_or ss n (0, 0)).0) e (begun.high (0, 0) (omega arith)) in
      subst (λ n. v < n) (sym (version_at xs ss named 0 (0, 0) (0, a) (omega arith))) first))

  pub number_of_begun : (eq : V → V → Bool) → IsEquality eq → IsDistinct (equal_at eq) xs → (o : Option ℕ) → (k ≡ 0 → o ≡ position (λ b. eq a (arc_value b)) xs) → ((d : ℕ × ℕ) → 0 < k → o ≡ Some (get_or ss (k - 1) d).1)
      → o ≡ position (λ b. eq (value_at a (sets_of xs ss) v) (arc_value b)) xs
  number_of_begun eq laws d o none last = elim (cases_lt 0 k) as (λ _. o ≡ position (λ b. eq (value_at a (sets_of xs ss) v) (arc_value b)) xs) [
    | inl i ↦
        let within : k - 1 < length ss = (let l = begun.bound in omega arith) in
        let x = got xs (get_or ss (k - 1) (0, 0)).1 (numbered_at xs ss named (k - 1) (0, 0) within) in
        let value = value_of_last xs a ss k v (0, 0) x.0 named rising i begun.bound (begun.low (0, 0) i) (begun.high (0, 0)) x.1 in
        last (0, 0) i ∙ sym (position_of eq laws (value_at a (sets_of xs ss) v) xs d (get_or ss (k - 1) (0, 0)).1 x.0 x.1 (sym value))
    | inr i ↦ (let e : k ≡ 0 = omega arith in none e ∙ ap (λ w. position (λ b. eq w (arc_value b)) xs) (value_of_begun e))
  ]

pub all_push : (m n : ℕ) (ss : List (ℕ × ℕ)) (s : ℕ × ℕ) → m ≤ n → AllNumbered m ss → s.1 < n → AllNumbered n (ss ++ s ∷ [])
all_push m n [] s l h k = (k, tt)
all_push m n (t ∷ ts) s l h k = (omega (arith, h.0), all_push m n ts s l h.1 k)

-- one set more
module _ {V B : Type 0} where
  -- more values change nothing
  sets_more : (xs ys : List (Arc V B)) (ss : List (ℕ × ℕ)) → AllNumbered (length xs) ss → sets_of (xs ++ ys) ss ≡ sets_of xs ss
  sets_more xs ys [] h = refl
  sets_more xs ys (s ∷ ss) h =
      let x = got xs s.1 h.0 in
      head (xs ++ ys) s ss x.0 (get_longer xs ys s.1 x.0 x.1) ∙ (ap (λ ts. (s.0, arc_value x.0) ∷ ts) (sets_more xs ys ss h.1) ∙ sym (head xs s ss x.0 x.1))

  sets_push : (xs : List (Arc V B)) (ss : List (ℕ × ℕ)) (s : ℕ × ℕ) (x : Arc V B) → slice_get xs s.1 ≡ Some x → sets_of xs (ss ++ s ∷ []) ≡ sets_of xs ss ++ (s.0, arc_value x) ∷ []
  sets_push xs [] s x e = head xs s [] x e
  sets_push xs (t ∷ ts) s x e =
      ap (λ us. pick t.0 (slice_get xs t.1) ++ us) (sets_push xs ts s x e) ∙ sym (append_assoc (pick t.0 (slice_get xs t.1)) (sets_of xs ts) ((s.0, arc_value x) ∷ []))

  grown : (b : Bool) (xs : List (Arc V B)) (y : Arc V B) (ss : List (ℕ × ℕ)) → AllNumbered (length xs) ss → sets_of (cond b xs (xs ++ y ∷ [])) ss ≡ sets_of xs ss
  grown true xs y ss h = refl
  grown false xs y ss h = sets_more xs (y ∷ []) ss h

  -- one set more, to the value y that was inserted among the values, or to an equal one that was there
  pub pushed : (eq : V → V → Bool) → ((x y : V) → eq x y ≡ true → x ≡ y) → (b : Bool) (xs zs : List (Arc V B)) (y k : Arc V B) (ss : List (ℕ × ℕ)) (s : ℕ × ℕ) → AllNumbered (length xs) ss → zs ≡ cond b xs (xs ++ y ∷ [])
      → slice_get zs s.1 ≡ Some k → eq (arc_value y) (arc_value k) ≡ true → sets_of zs (ss ++ s ∷ []) ≡ sets_of xs ss ++ (s.0, arc_value y) ∷ []
  pushed eq same b xs zs y k ss s n z at e =
      sets_push zs ss s k at ∙ (ap (λ ts. ts ++ (s.0, arc_value k) ∷ []) (ap (λ us. sets_of us ss) z ∙ grown b xs y ss n) ∙ ap (λ v. sets_of xs ss ++ (s.0, v) ∷ []) (sym (same (arc_value y) (arc_value k) e)))

-- an insert takes no value away
pub values_stay : {X : Type 0} (b : Bool) (xs zs : List X) (y : X) → zs ≡ cond b xs (xs ++ y ∷ []) → length xs ≤ length zs
values_stay true xs zs y e = subst (λ ys. length xs ≤ length ys) (sym e) (omega arith)
values_stay false xs zs y e = subst (λ ys. length xs ≤ length ys) (sym e) (simp length-append (omega arith))

-- a test of the numbers that agrees with one of the values
module _ {V B : Type 0} (xs : List (Arc V B)) (o : Option ℕ) (f : V → Bool) (agree : (n : ℕ) (x : Arc V B) → slice_get xs n ≡ Some x → option_eq nat_eq o (Some n) ≡ f (arc_value x)) where
  choice : (b : Bool) (x y : V) → cond b (f x) (f y) ≡ f (cond b x y)
  choice true x y = refl
  choice false x y = refl

  pub tests_value : (a : V) (ss : List (ℕ × ℕ)) (w : ℕ) → AllNumbered (length xs) ss → value_at (f a) (tests o ss) w ≡ f (value_at a (sets_of xs ss) w)
  tests_value a [] w n = refl
  tests_value a (s ∷ ss) w n =
      let x = got xs s.1 n.0 in
      ap (λ b. value_at (cond (leb s.0 w) b (f a)) (tests o ss) w) (agree s.1 x.0 x.1)
      ∙ (ap (λ b. value_at b (tests o ss) w) (choice (leb s.0 w) (arc_value x.0) a)
      ∙ (tests_value (cond (leb s.0 w) (arc_value x.0) a) ss w n.1
      ∙ sym (ap (λ h. f (value_at a h w)) (head xs s ss x.0 x.1))))

  pub tests_newest : (a : V) (ss : List (ℕ × ℕ)) → AllNumbered (length xs) ss → newest_of (f a) (tests o ss) ≡ f (newest_of a (sets_of xs ss))
  tests_newest a [] n = refl
  tests_newest a (s ∷ ss) n =
      let x = got xs s.1 n.0 in
      ap (λ b. newest_of b (tests o ss)) (agree s.1 x.0 x.1) ∙ (tests_newest (arc_value x.0) ss n.1 ∙ sym (ap (λ h. f (newest_of a h)) (head xs s ss x.0 x.1)))

pub rising_tests : (o : Option ℕ) (ss : List (ℕ × ℕ)) → IsRising ss → IsRising (tests o ss)
rising_tests o [] r = tt
rising_tests o (s ∷ []) r = (tt, tt)
rising_tests o (s ∷ t ∷ ss) r = (r.0, rising_tests o (t ∷ ss) r.1)
