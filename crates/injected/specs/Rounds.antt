-- The versions round one up to which a value stays.
use Rattle.std.specs.Prelude.{ℕ, Bool}
use Rattle.version_ranges.specs.Rounds.{all_between}

-- whether the value stays as it is at v from there to w, or was so from w to v
abbrev pub stays : {V : Type 0} → (V → V → Bool) → (ℕ → V) → ℕ → ℕ → Bool
stays eq at v w = all_between (λ u. eq (at u) (at v)) v w
