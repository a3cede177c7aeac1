-- Traces and recordings, without their places in memory.
use Rattle.std.specs.Prelude.{◌≡◌, Bool, true, false, ◌&&◌, ◌<◌, ◌-◌, ℕ, List, [], ◌∷◌, ◌++◌, map, take, drop, length, Option, Some, None}
use Rattle.std.proofs.Common.{zero, suc}
use Rattle.std.specs.Arc.{arc_value}
use Rattle.std.specs.declared.sync.Arc.{Arc}
use Rattle.dice_key.specs.Meaning.{Answered}

-- the keys, the values, and both, of pairs
abbrev pub keys_in : {K V A B : Type 0} → List (Arc K A × Arc V B) → List K
keys_in ps = map (λ p. arc_value p.0) ps

abbrev pub values_in : {K V A B : Type 0} → List (Arc K A × Arc V B) → List V
values_in ps = map (λ p. arc_value p.1) ps

abbrev pub answered_in : {K V A B : Type 0} → List (Arc K A × Arc V B) → Answered K V
answered_in ps = record { keys = keys_in ps; values = values_in ps }

-- pairs of equal keys and equal values, in one order
abbrev pub same_pairs : {K V A B : Type 0} → (K → K → Bool) → (V → V → Bool) → List (Arc K A × Arc V B) → List (Arc K A × Arc V B) → Bool
same_pairs f g [] [] = true
same_pairs f g [] (q ∷ qs) = false
same_pairs f g (p ∷ ps) [] = false
same_pairs f g (p ∷ ps) (q ∷ qs) = (f (arc_value p.0) (arc_value q.0) && g (arc_value p.1) (arc_value q.1)) && same_pairs f g ps qs

-- keys in one row and values in another are parted into batches: the first begins at `start`, each
-- ends where the next begins
abbrev pub parted : {K V : Type 0} → List K → List V → ℕ → List ℕ → List (Answered K V)
parted ks xs start [] = []
parted ks xs start (e ∷ es) = record { keys = take (e - start) (drop start ks); values = take (e - start) (drop start xs) } ∷ parted ks xs e es

-- these ends go up from `start` to n
abbrev pub RiseTo : ℕ → List ℕ → ℕ → Type 0
RiseTo start [] n = start ≡ n
RiseTo start (e ∷ es) n = (start < e) × RiseTo e es n

-- where part i begins, and the one before it ends
abbrev pub begins : ℕ → List ℕ → ℕ → ℕ
begins start ends zero = start
begins start [] (suc i) = start
begins start (e ∷ es) (suc i) = begins e es i

-- what a run has asked so far: the batches that are answered, and the last one if it is not
pub record Recording (K V : Type 0) : Type 0 where
  pub answered : List (Answered K V)
  pub asked : Option (List K)

module _ {K V : Type 0} where
  -- a batch waits for n values
  abbrev pub IsWaitingFor : ℕ → Recording K V → Type 0
  IsWaitingFor n r = (ks : List K) × (r.asked ≡ Some ks) × (n ≡ length ks)

  -- these values answer the batch that waits
  abbrev pub answered_by : List V → Option (List K) → List (Answered K V)
  answered_by xs None = []
  answered_by xs (Some ks) = record { keys = ks; values = xs } ∷ []

  abbrev pub with_answers : Recording K V → List V → Recording K V
  with_answers r xs = record { answered = r.answered ++ answered_by xs r.asked; asked = None }
