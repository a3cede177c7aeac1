-- None and one number are apart.
use Rattle.std.proofs.Common.{ℕ, nat_eq, [], ◌∷◌}
use Rattle.std.specs.List.{IsDistinct}

pub none_apart : IsDistinct nat_eq []
unfolding IsDistinct
none_apart = tt

pub one_apart : (n : ℕ) → IsDistinct nat_eq (n ∷ [])
unfolding IsDistinct
one_apart n = (tt, tt)
