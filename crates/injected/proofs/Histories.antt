-- The sets of a key, at places and in parts.
use Rattle.std.proofs.Common.{◌≡◌, ◌≤◌, ◌<◌, ◌+◌, ◌-◌, ℕ, zero, suc, cond, leb, List, [], ◌∷◌, ◌++◌, length, get_or, take, drop, refl, ap, sym, ◌∙◌, subst, inl, inr, arith}
use Rattle.std.specs.List.{AllAdjacentBelow}
use Rattle.std.specs.List.Sorted.{IsNonDecreasingBy}
use Rattle.std.proofs.lemmas.Bool.{le-leb, lt-leb, cases_lt}
use Rattle.std.proofs.lemmas.List.{drop_more, drop_all, take_more, take-append-drop, append_assoc}
use Rattle.std.proofs.lemmas.List.Sorted.{IsNonDecreasingBy-from_all_adjacent}
use Rattle.injected.specs.History.{value_at, newest_of, AllBelow, FirstAbove, IsRising}

module _ {V : Type 0} where
  above_more : (v w : ℕ) (h : List (ℕ × V)) → v < w → FirstAbove w h → FirstAbove v h
  above_more v w [] l f = tt
  above_more v w (s ∷ ss) l f = omega arith

  -- sets above a version change nothing there
  pub unmoved : (x : V) (h : List (ℕ × V)) (v : ℕ) → FirstAbove v h → IsRising h → value_at x h v ≡ x
  unmoved x [] v f r = refl
  unmoved x (s ∷ ss) v f r = ap (λ b. value_at (cond b s.1 x) ss v) (lt-leb s.0 v f) ∙ unmoved x ss v (above_more v s.0 ss f r.0) r.1

  -- what stands before a set at or below a version does not matter there
  pub from_set : (x : V) (zs : List (ℕ × V)) (s : ℕ × V) (rest : List (ℕ × V)) (v : ℕ) → s.0 ≤ v → value_at x (zs ++ s ∷ rest) v ≡ value_at s.1 rest v
  from_set x [] s rest v l = ap (λ b. value_at (cond b s.1 x) rest v) (le-leb s.0 v l)
  from_set x (z ∷ zs) s rest v l = from_set (cond (leb z.0 v) z.1 x) zs s rest v l

  pub newest_last : (x : V) (zs : List (ℕ × V)) (s : ℕ × V) → newest_of x (zs ++ s ∷ []) ≡ s.1
  newest_last x [] s = refl
  newest_last x (z ∷ zs) s = newest_last z.1 zs s

  rising_back : (zs : List (ℕ × V)) (s : ℕ × V) (rest : List (ℕ × V)) → IsRising (zs ++ s ∷ rest) → IsRising (s ∷ rest)
  rising_back [] s rest r = r
  rising_back (z ∷ zs) s rest r = rising_back zs s rest r.1

  above_drop : (h : List (ℕ × V)) (k v : ℕ) (d : ℕ × V) → (k < length h → v < (get_or h k d).0) → FirstAbove v (drop k h)
  above_drop h k v d f = elim (cases_lt k (length h)) as (λ _. FirstAbove v (drop k h)) [
    | inl l ↦ subst (FirstAbove v) (sym (drop_more h k d l)) (f l)
    | inr l ↦ subst (FirstAbove v) (sym (drop_all k h l)) tt
  ]

  around : (h : List (ℕ × V)) (k : ℕ) (d : ℕ × V) → 0 < k → k ≤ length h → h ≡ take (k - 1) h ++ get_or h (k - 1) d ∷ drop k h
  around h k d p l =
      let e : (k - 1) + 1 ≡ k = omega arith in
      let lt : k - 1 < length h = omega arith in
      let t : take k h ≡ take (k - 1) h ++ get_or h (k - 1) d ∷ [] = subst (λ n. take n h ≡ take (k - 1) h ++ get_or h (k - 1) d ∷ []) e (take_more h (k - 1) d lt) in
      sym (take-append-drop k h) ∙ (ap (λ xs. xs ++ drop k h) t ∙ append_assoc (take (k - 1) h) (get_or h (k - 1) d ∷ []) (drop k h))

  -- if the first k sets lie at or below v, and no other, the last of these has the value
  pub value_here : (x : V) (h : List (ℕ × V)) (k v : ℕ) (d : ℕ × V) → IsRising h → 0 < k → k ≤ length h → (get_or h (k - 1) d).0 ≤ v → (k < length h → v < (get_or h k d).0) → value_at x h v ≡ (get_or h (k - 1) d).1
  value_here x h k v d r p l f g =
      let e = around h k d p l in
      let s = get_or h (k - 1) d in
      let rest : IsRising (s ∷ drop k h) = rising_back (take (k - 1) h) s (drop k h) (subst IsRising e r) in
      ap (λ xs. value_at x xs v) e ∙ (from_set x (take (k - 1) h) s (drop k h) v f ∙ unmoved s.1 (drop k h) v (above_drop h k v d g) rest.1)

  pub value_before : (x : V) (h : List (ℕ × V)) (v : ℕ) (d : ℕ × V) → IsRising h → (0 < length h → v < (get_or h 0 d).0) → value_at x h v ≡ x
  value_before x h v d r f = unmoved x h v (above_drop h 0 v d f) r

  pub newest_here : (x : V) (h : List (ℕ × V)) (d : ℕ × V) → 0 < length h → newest_of x h ≡ (get_or h (length h - 1) d).1
  newest_here x h d p =
      let e = around h (length h) d p (omega arith) in
      let s = get_or h (length h - 1) d in
      let last : h ≡ take (length h - 1) h ++ s ∷ [] = e ∙ ap (λ xs. take (length h - 1) h ++ s ∷ xs) (drop_all (length h) h (omega arith)) in
      ap (newest_of x) last ∙ newest_last x (take (length h - 1) h) s

  -- at or above every set the newest value stands
  pub settled : (x : V) (h : List (ℕ × V)) (v : ℕ) → AllBelow h (v + 1) → value_at x h v ≡ newest_of x h
  settled x [] v b = refl
  settled x (s ∷ ss) v b = ap (λ c. value_at (cond c s.1 x) ss v) (le-leb s.0 v (omega (arith, b.0))) ∙ settled s.1 ss v b.1

  pub below_more : (h : List (ℕ × V)) (v w : ℕ) → v ≤ w → AllBelow h v → AllBelow h w
  below_more [] v w l b = tt
  below_more (s ∷ ss) v w l b = (omega (arith, b.0), below_more ss v w l b.1)

  above_push : (v : ℕ) (h : List (ℕ × V)) (s : ℕ × V) → v < s.0 → FirstAbove v h → FirstAbove v (h ++ s ∷ [])
  above_push v [] s l f = l
  above_push v (t ∷ ts) s l f = f

  pub rising_push : (h : List (ℕ × V)) (s : ℕ × V) → IsRising h → AllBelow h s.0 → IsRising (h ++ s ∷ [])
  rising_push [] s r b = (tt, tt)
  rising_push (t ∷ ts) s r b = (above_push t.0 ts s b.0 r.0, rising_push ts s r.1 b.1)

  pub below_push : (h : List (ℕ × V)) (s : ℕ × V) (w : ℕ) → AllBelow h w → s.0 < w → AllBelow (h ++ s ∷ []) w
  below_push [] s w b l = (l, tt)
  below_push (t ∷ ts) s w b l = (b.0, below_push ts s w b.1 l)

  rising_rest : (n : ℕ) (h : List (ℕ × V)) → IsRising h → IsRising (drop n h)
  rising_rest zero h r = r
  rising_rest (suc n) [] r = r
  rising_rest (suc n) (s ∷ ss) r = rising_rest n ss r.1

  pub versions_rise : (h : List (ℕ × V)) → IsRising h → IsNonDecreasingBy (λ (s : ℕ × V). s.0) h
  versions_rise h r = IsNonDecreasingBy-from_all_adjacent (λ (s : ℕ × V). s.0) h adjacent
    where
      adjacent : AllAdjacentBelow (λ (x : ℕ × V) (y : ℕ × V). x.0 ≤ y.0) h (length h)
      adjacent k d l =
          let here : drop k h ≡ get_or h k d ∷ drop (k + 1) h = drop_more h k d (omega arith) in
          let next : drop (k + 1) h ≡ get_or h (k + 1) d ∷ drop ((k + 1) + 1) h = drop_more h (k + 1) d (omega arith) in
          let two : IsRising (get_or h k d ∷ get_or h (k + 1) d ∷ drop ((k + 1) + 1) h) = subst (λ xs. IsRising (get_or h k d ∷ xs)) next (subst IsRising here (rising_rest k h r)) in
          omega (arith, two.0)
