-- Steps of loops over lists of keys and values.
use Rattle.std.proofs.Common.{◌≡◌, ◌≤◌, ◌<◌, ◌+◌, ℕ, zero, suc, List, [], ◌∷◌, ◌++◌, length, map, take, drop, get_or, refl, sym, ap, ◌∙◌, arith, append_assoc}
use Rattle.std.specs.Arc.{arc_value}
use Rattle.std.specs.declared.sync.Arc.{Arc}
use Rattle.std.proofs.lemmas.List.{map-append}
use Rattle.std.proofs.Math.Seq.{drop-cons}
use Rattle.dep_recorder.specs.Recordings.{keys_in, values_in}
use Rattle.dep_recorder.proofs.Findings.{take_one}

front_of : {X : Type 0} (xs : List X) (x : X) → take (length xs) (xs ++ x ∷ []) ≡ xs
front_of [] x = refl
front_of (y ∷ xs) x = ap (λ zs. y ∷ zs) (front_of xs x)

-- one pair more
module _ {K V A B : Type 0} (ps qs : List (Arc K A × Arc V B)) (k : Arc K A) (v : Arc V B) (e : qs ≡ ps ++ (k, v) ∷ []) where
  pub pair_keys : (x : K) → arc_value k ≡ x → keys_in qs ≡ keys_in ps ++ x ∷ []
  pair_keys x f = ap keys_in e ∙ (map-append (λ (p : Arc K A × Arc V B). arc_value p.0) ps ((k, v) ∷ []) ∙ ap (λ y. keys_in ps ++ y ∷ []) f)

  pub pair_values : (x : V) → arc_value v ≡ x → values_in qs ≡ values_in ps ++ x ∷ []
  pair_values x f = ap values_in e ∙ (map-append (λ (p : Arc K A × Arc V B). arc_value p.1) ps ((k, v) ∷ []) ∙ ap (λ y. values_in ps ++ y ∷ []) f)

  pub pair_front : take (length ps) qs ≡ ps
  pair_front = ap (take (length ps)) e ∙ front_of ps (k, v)

module _ {X Y : Type 0} (f : Y → X) (from : List Y) (i : ℕ) (y : Y) (h : i < length from) (e : y ≡ get_or from i y) where
  at_place : drop i from ≡ y ∷ drop (i + 1) from
  at_place = let s : suc i ≡ i + 1 = omega arith in drop-cons from i y h ∙ (λ j. sym e j ∷ drop (s j) from)

  -- one of those that are left is added to those before
  pub added : (before after whole : List X) → after ≡ before ++ f y ∷ [] → before ++ map f (drop i from) ≡ whole → after ++ map f (drop (i + 1) from) ≡ whole
  added before after whole a w = ap (λ xs. xs ++ map f (drop (i + 1) from)) a ∙ (append_assoc before (f y ∷ []) (map f (drop (i + 1) from)) ∙ (ap (λ ys. before ++ map f ys) (sym at_place) ∙ w))

  -- those so far, after what was there, and one more
  pub grown : (old before after : List X) → after ≡ before ++ f y ∷ [] → before ≡ old ++ map f (take i from) → after ≡ old ++ map f (take (i + 1) from)
  grown old before after a b =
      let t : take (i + 1) from ≡ take i from ++ y ∷ [] = take_one i from y (drop (i + 1) from) at_place in
      a ∙ (ap (λ xs. xs ++ f y ∷ []) b ∙ (append_assoc old (map f (take i from)) (f y ∷ []) ∙ ap (λ xs. old ++ xs) (sym (map-append f (take i from) (y ∷ [])) ∙ ap (map f) (sym t))))

-- what stood in front stays in front of a longer list
module _ {X : Type 0} where
  taken : (n m : ℕ) (qs : List X) → n ≤ m → take n (take m qs) ≡ take n qs
  taken zero m qs h = refl
  taken (suc n) zero qs h = absurd (omega arith)
  taken (suc n) (suc m) [] h = refl
  taken (suc n) (suc m) (q ∷ qs) h = ap (λ zs. q ∷ zs) (taken n m qs (omega arith))

  taken_length : (m : ℕ) (qs : List X) → length (take m qs) ≤ length qs
  taken_length zero qs = omega arith
  taken_length (suc m) [] = omega arith
  taken_length (suc m) (q ∷ qs) = let h = taken_length m qs in omega arith

  pub front_kept : (n : ℕ) (ps qs old : List X) → take (length ps) qs ≡ ps → n ≤ length ps → take n ps ≡ old → take n qs ≡ old
  front_kept n ps qs old e h f = sym (taken n (length ps) qs h) ∙ (ap (take n) e ∙ f)

  pub long_kept : (n : ℕ) (ps qs : List X) → take (length ps) qs ≡ ps → n ≤ length ps → n ≤ length qs
  long_kept n ps qs e h = let l = taken_length (length ps) qs in let p = ap length e in omega arith
