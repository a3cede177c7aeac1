-- The cells of a log of commits.
use Rattle.std.specs.Prelude.{◌≡◌, ℕ, suc, Bool, List, [], ◌∷◌, ◌++◌, Option, Some, None}
use Rattle.std.specs.Map.{lookup}
use Rattle.injected.specs.Seen.{Seen, sets_at}

-- a set at a version, if there is a value
abbrev pub set_if : {V : Type 0} → ℕ → Option V → List (ℕ × V)
set_if v None = []
set_if v (Some x) = (v, x) ∷ []

module _ {K V : Type 0} (eq : K → K → Bool) where
  -- the sets that commits make of a key, if n commits came before them
  abbrev pub sets_from : ℕ → List (List (K × V)) → K → List (ℕ × V)
  sets_from n [] k = []
  sets_from n (c ∷ cs) k = set_if (suc n) (lookup (eq k) c) ++ sets_from (suc n) cs k

  -- each key was set by the commits that have it, at their versions
  abbrev pub AreOf : List (List (K × V)) → Seen K V → Type 0
  AreOf C s = (k : K) → sets_at eq s k ≡ sets_from 0 C k
