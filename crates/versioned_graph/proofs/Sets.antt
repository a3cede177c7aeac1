-- Sets of pointers to keys, read without them.
use Rattle.std.proofs.Common.{◌≡◌, ◌||◌, Bool, true, false, cond, List, [], ◌∷◌, map, refl, ap}
use Rattle.std.specs.Arc.{arc_value}
use Rattle.std.specs.declared.sync.Arc.{Arc}
use Rattle.std.specs.List.{list_any}
use Rattle.dice_key.specs.Lawful.{IsEquality}
use Rattle.dice_key.proofs.KeySets.{turned}

module _ {K A : Type 0} (eq : K → K → Bool) where
  pub any_map : (j : K) (ks : List (Arc K A)) → list_any (eq j) (map arc_value ks) ≡ list_any (λ a. eq j (arc_value a)) ks
  any_map j [] = refl
  any_map j (k ∷ ks) = ap (λ b. eq j (arc_value k) || b) (any_map j ks)

module _ {K : Type 0} (eq : K → K → Bool) (law : IsEquality eq) where
  -- one key goes from what is left to what is there
  pub moved : (k q : K) (r o n : Bool) → n ≡ cond (eq k q) true o → (r || n) ≡ ((eq q k || r) || o)
  moved k q r o n e = e' (eq k q) (eq q k) r o n (turned eq law q k) e
    where
      e' : (x y r o n : Bool) → y ≡ x → n ≡ cond x true o → (r || n) ≡ ((y || r) || o)
      e' true true true o n t e = refl
      e' true true false o n t e = e
      e' false false true o n t e = refl
      e' false false false o n t e = e
      e' true false r o n t e = cc
      e' false true r o n t e = cc
