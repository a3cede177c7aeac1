-- Lists of events, and the numbers of seats that events tell.
-- `by` is the number that an event tells, if any.
use Rattle.std.specs.Prelude.{◌≡◌, ℕ, ◌<◌, List, [], ◌∷◌, ◌++◌, length, Bool, false, if◌then◌else◌, ◌==◌, nat_le, Option, Some, None}

abbrev pub has_number : ℕ → Option ℕ → Bool
has_number n None = false
has_number n (Some m) = m == n

abbrev pub IsBelow : ℕ → Option ℕ → Type 0
IsBelow n None = Unit {0}
IsBelow n (Some m) = m < n

-- no number, or the number n of one of so many writers
abbrev pub IsOwn : ℕ → ℕ → Option ℕ → Type 0
IsOwn n writers None = Unit {0}
IsOwn n writers (Some m) = (m ≡ n) × (m < writers)

module _ {E : Type 0} where
  -- xs begins with ys
  abbrev pub StartsWith : List E → List E → Type 0
  StartsWith xs ys = (rest : List E) × (xs ≡ ys ++ rest)

  -- the longer of two lists
  abbrev pub longer : List E → List E → List E
  longer xs ys = if nat_le (length ys) (length xs) then xs else ys

  -- the events that tell the number n
  abbrev pub events_by : (E → Option ℕ) → ℕ → List E → List E
  events_by by n [] = []
  events_by by n (e ∷ es) = if has_number n (by e) then e ∷ events_by by n es else events_by by n es

  -- each number that is told is below n
  abbrev pub AllBelow : (E → Option ℕ) → ℕ → List E → Type 0
  AllBelow by n [] = Unit {0}
  AllBelow by n (e ∷ es) = IsBelow n (by e) × AllBelow by n es

  -- these events tell no number, or that of the writer n
  abbrev pub AllOwn : (E → Option ℕ) → ℕ → ℕ → List E → Type 0
  AllOwn by n writers [] = Unit {0}
  AllOwn by n writers (e ∷ es) = IsOwn n writers (by e) × AllOwn by n writers es

  -- ys is xs and then events that tell no number, or that of the writer n
  abbrev pub Grows : (E → Option ℕ) → ℕ → ℕ → List E → List E → Type 0
  Grows by n writers xs ys = (es : List E) × (ys ≡ xs ++ es) × AllOwn by n writers es
