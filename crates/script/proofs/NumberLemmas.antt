-- Numbers written in digits.
use Rattle.std.proofs.Common.{◌≡◌, ◌≤◌, ◌+◌, ◌*◌, ◌-◌, ap, ◌<◌, ℕ, List, [], ◌∷◌, drop, length, arith}
use Rattle.std.proofs.Math.ListN.{get_or}
use Rattle.std.proofs.lemmas.List.{drop_more}
use Rattle.script.specs.Lines.{value_from}

-- more digits make no smaller number
pub value_grows : (n : ℕ) (ds : List ℕ) → n ≤ value_from n ds
value_grows n [] = omega arith
value_grows n (d ∷ ds) = let h = value_grows (10 * n + (d - 48)) ds in omega arith

-- one digit more is too great, so the whole number is
pub too_great : (ds : List ℕ) (i v : ℕ) → i < length ds → value_from v (drop i ds) ≡ value_from 0 ds → 4194304 < 10 * v + (get_or ds i 0 - 48) → value_from 0 ds ≤ 4194304 → ⊥
too_great ds i v h e g f =
    let d : value_from v (drop i ds) ≡ value_from (10 * v + (get_or ds i 0 - 48)) (drop (i + 1) ds) = ap (value_from v) (drop_more ds i 0 h) in
    let k = value_grows (10 * v + (get_or ds i 0 - 48)) (drop (i + 1) ds) in
    omega arith
