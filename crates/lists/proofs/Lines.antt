-- The lines of two texts, one after the other.
use Rattle.std.proofs.Common.{◌≡◌, ◌+◌, ℕ, nat_eq, if◌then◌else◌, List, [], ◌∷◌, ◌++◌, arith}
use Rattle.lists.specs.Lines.{line_feeds}

pub line_feeds_append : (xs ys : List ℕ) → line_feeds (xs ++ ys) ≡ line_feeds xs + line_feeds ys
line_feeds_append [] ys = omega arith
line_feeds_append (x ∷ xs) ys =
    let h = line_feeds_append xs ys in
    let n : ℕ = if nat_eq x 10 then 1 else 0 in
    let k : n + line_feeds (xs ++ ys) ≡ (n + line_feeds xs) + line_feeds ys = omega arith in
    k
