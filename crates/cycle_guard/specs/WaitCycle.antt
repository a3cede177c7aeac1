-- The cycle that a wait would close.
use Rattle.std.specs.Prelude.{◌≡◌, ◌⊎◌, true, List, [], ◌∷◌}
use Rattle.task_share.specs.Asked.{Asked, Tasked}
use Rattle.lists.specs.Lists.{AreDistinct}

-- each waits by W for the next, and the last for `first`
abbrev pub IsRound : {K : Type 0} → (K → K → Type 0) → K → K → List K → Type 0
IsRound W first k [] = W k first
IsRound W first k (j ∷ js) = W k j × IsRound W first j js

-- the second of a cycle is `to`; if there is no second one, the first is
abbrev pub IsSecond : {K : Type 0} → K → K → List K → Type 0
IsSecond first to [] = to ≡ first
IsSecond first to (k ∷ ks) = k ≡ to

module _ {K : Type 0} (s : Asked K) (from to : K) where
  -- a waits for b already, or this is the wait of `from` for `to`
  abbrev pub WouldWait : K → K → Type 0
  WouldWait a b = (s.asks b (Tasked a) ≡ true) ⊎ ((a ≡ from) × (b ≡ to))

  -- distinct keys that begin with `from`, then `to`; each would wait for the next, and the last for
  -- the first
  pub record IsWaitCycle (path : List K) : Type 0 where
    pub rest : List K
    pub begins : path ≡ from ∷ rest
    pub second : IsSecond from to rest
    pub distinct : AreDistinct path
    pub round : IsRound WouldWait from from rest
