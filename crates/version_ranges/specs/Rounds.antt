-- Tests of versions that hold from one version to another.
use Rattle.std.specs.Prelude.{ℕ, zero, suc, ◌-◌, Bool, true, ◌&&◌}

-- whether a test holds at n versions, from v on
abbrev pub all_from : (ℕ → Bool) → ℕ → ℕ → Bool
all_from f v zero = true
all_from f v (suc n) = f v && all_from f (suc v) n

-- whether a test holds at two versions and at each one between them
abbrev pub all_between : (ℕ → Bool) → ℕ → ℕ → Bool
all_between f v w = all_from f v (suc (w - v)) && all_from f w (suc (v - w))
