-- What the totals mean.
use Rattle.std.specs.Prelude.{◌≡◌, ◌≤◌, ◌+◌, ◌-◌, ◌%◌, ◌^◌, ℕ, Bool, true, false, nat_eq, if◌then◌else◌, List, [], ◌∷◌, ◌++◌, length, codes, refl}
use Rattle.std.specs.Fmt.{decimal}
use Rattle.std.proofs.Common.{ap, arith}
use Rattle.dice_key.specs.Meaning.{Step, Asks, Ends}
use Rattle.dice_key.specs.Lawful.{SameKeys}
use Rattle.dice_key.specs.Same.{tied_numbers}
use Rattle.totals.specs.contracts.universe.KeyOrd.TheImpl as ordered
use Rattle.totals.specs.declared.universe.Key.{Key}
use Rattle.totals.specs.declared.universe.Key.TheVariants.{Cell, Total}

abbrev pub is_cell : Key → Bool
is_cell (Cell n) = true
is_cell (Total n) = false

abbrev pub total_of : List ℕ → ℕ
total_of [] = 0
total_of (x ∷ []) = x
total_of (x ∷ y ∷ xs) = (x + y) % 2 ^ 64

-- what a key asks next or is, by the answers to its batches so far
abbrev pub next_move : Key → List (List ℕ) → Step Key ℕ
next_move (Cell n) A = Ends 0
next_move (Total n) [] = if nat_eq n 0 then Asks (Cell 0 ∷ []) else Asks (Cell n ∷ Total (n - 1) ∷ [])
next_move (Total n) (xs ∷ A) = Ends (total_of xs)

abbrev pub text_of : Key → Bool → List ℕ
text_of (Cell n) short = codes "cell " ++ decimal n
text_of (Total n) short = codes "total " ++ decimal n

-- after one answered batch a key is done
pub ends : (k : Key) (A : List (List ℕ)) → 1 ≤ length A → (x : ℕ) × (next_move k A ≡ Ends x)
ends (Cell n) A h = (0, refl)
ends (Total n) [] h = absurd (omega arith)
ends (Total n) (xs ∷ A) h = (total_of xs, refl)

-- keys that compare equal are the same
pub same_keys : SameKeys ordered.ghosts.cmp
same_keys (Cell a) (Cell b) h = ap Cell (tied_numbers a b h)
same_keys (Total a) (Total b) h = ap Total (tied_numbers a b h)
same_keys x y h = cc
