-- Keys that were noted, as pointers to them; and lists that are not empty.
use Rattle.std.proofs.Common.{◌≡◌, ◌<◌, ℕ, zero, suc, ◌==◌, Bool, true, false, cond, List, [], ◌∷◌, ◌++◌, sym, ap, ◌∙◌, arith}
use Rattle.std.specs.Arc.{arc_value}
use Rattle.std.specs.declared.sync.Arc.{Arc}
use Rattle.std.specs.List.{list_any}
use Rattle.dice_key.specs.Lawful.{IsEquality}
use Rattle.dice_key.proofs.KeySets.{any_end}

pub not_empty : (b : Bool) (n : ℕ) → b ≡ (n == 0) → b ≡ false → 0 < n
not_empty b zero e f = cc
not_empty b (suc n) e f = omega arith

-- these pointers are to those keys
abbrev pub AreSeen : {K A : Type 0} → (K → K → Bool) → List (Arc K A) → List K → Type 0
AreSeen {K} eq ps ks = (q : K) → list_any (λ a. eq q (arc_value a)) ps ≡ list_any (eq q) ks

module _ {K A : Type 0} (eq : K → K → Bool) (law : IsEquality eq) where
  pub seen_more : (ps qs : List (Arc K A)) (ks : List K) (k : K) → AreSeen eq ps ks
      → ((q : K) → list_any (λ a. eq q (arc_value a)) qs ≡ cond (eq k q) true (list_any (λ a. eq q (arc_value a)) ps))
      → AreSeen eq qs (ks ++ k ∷ [])
  seen_more ps qs ks k s n = λ q. n q ∙ (ap (cond (eq k q) true) (s q) ∙ sym (any_end eq law q k ks))
