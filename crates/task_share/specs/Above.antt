-- Who asks for a task, directly or through others.
use Rattle.std.specs.Prelude.{◌≡◌, ℕ, Bool, List, length, map, slice_get}
use Rattle.task_share.specs.Asked.{Asked, Leads}
use Rattle.task_share.specs.Numbers.{number_of}
use Rattle.task_share.specs.Seen.{Share, list_for}
use Rattle.lists.specs.Lists.{AreDistinct, Has}

-- the numbers of the keys whose tasks ask for the key of a number
abbrev pub askers_by : {K T : Type 0} → (K → K → Bool) → List (K × Share K T) → ℕ → List ℕ
askers_by eq ps n = list_for (λ p. map (number_of eq ps) p.1.askers) (slice_get ps n)

module _ {K : Type 0} (s : Asked K) where
  -- just the keys whose tasks ask for this one, directly or through others, and the key itself
  pub record AreAbove (k : K) (ks : List K) : Type 0 where
    pub all : (j : K) → Leads s j k → Has ks j
    pub only : (j : K) → Has ks j → Leads s j k
    pub distinct : AreDistinct ks

  -- how many these are
  abbrev pub AreCounted : K → ℕ → Type 0
  AreCounted k n = (ks : List K) × AreAbove k ks × (length ks ≡ n)
