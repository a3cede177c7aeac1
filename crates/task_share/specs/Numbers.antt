-- Keys by number: the number of a key is where its place stands in the list.
use Rattle.std.specs.Prelude.{◌≡◌, ℕ, Bool, List, [], ◌∷◌, map, Option, Some, None, slice_get}
use Rattle.std.specs.List.{position_or_len}
pub use Rattle.std.specs.Map.{keys_of}
use Rattle.std.specs.Map.{lookup}
use Rattle.task_share.specs.Seen.{Share, list_for}

-- the key of a number
abbrev pub key_at : {K T : Type 0} → List (K × Share K T) → ℕ → Option K
key_at ps n = slice_get (keys_of ps) n

-- where a key stands: it has this number, or no place
abbrev pub IsPlaceOf : {K T : Type 0} → (K → K → Bool) → List (K × Share K T) → K → Option ℕ → Type 0
IsPlaceOf eq ps k None = lookup (eq k) ps ≡ None
IsPlaceOf eq ps k (Some n) = key_at ps n ≡ Some k

-- each number has the key that it had
abbrev pub KeepsNumbers : {K T : Type 0} → List (K × Share K T) → List (K × Share K T) → Type 0
KeepsNumbers ps qs = (n : ℕ) → key_at qs n ≡ key_at ps n

-- the number of a key: where its place stands, or how many places there are, if it has none
abbrev pub number_of : {K T : Type 0} → (K → K → Bool) → List (K × Share K T) → K → ℕ
number_of eq ps k = position_or_len (eq k) (keys_of ps)

-- the numbers of the keys that the task of a number waits for
abbrev pub waits_by : {K T : Type 0} → (K → K → Bool) → List (K × Share K T) → ℕ → List ℕ
waits_by eq ps n = list_for (λ p. map (number_of eq ps) p.1.waits) (slice_get ps n)

abbrev pub with_name : {K : Type 0} → Option K → List K → List K
with_name None ks = ks
with_name (Some k) ks = k ∷ ks

-- the keys of these numbers
abbrev pub names_at : {K : Type 0} → List K → List ℕ → List K
names_at names [] = []
names_at names (n ∷ ns) = with_name (slice_get names n) (names_at names ns)
