-- How the bytes of a text are kept. No public clause cites this module.
use Rattle.std.specs.Prelude.{◌≡◌, ◌≤◌, ◌-◌, ◌++◌, ℕ, List, length, take, replicate}
use Rattle.shared_text.specs.declared.bytes.Kept.{Kept}
use Rattle.shared_text.specs.declared.bytes.Kept.TheVariants.{Few, Many}

abbrev pub bytes_in : Kept → List ℕ
bytes_in (Few len padded) = take len padded
bytes_in (Many bytes) = bytes.items

-- the bytes, and zeros after them, sixteen in all
abbrev pub with_zeros : List ℕ → List ℕ
with_zeros bytes = bytes ++ replicate (16 - length bytes) 0

-- few bytes have zeros after them
abbrev pub IsPadded : Kept → Type 0
IsPadded (Few len padded) = (len ≤ 16) × (padded ≡ with_zeros (take len padded))
IsPadded (Many bytes) = Unit {0}
