-- What a source gives and a sink takes. Bytes are `Some` if they are told.
use Rattle.std.specs.Prelude.{◌≡◌, ◌≤◌, ◌<◌, ◌⊎◌, ◌^◌, ◌+◌, ◌-◌, ℕ, min, List, [], ◌++◌, length, Option, Some}

-- one more, up to the greatest number that a count can hold
abbrev pub one_more : ℕ → ℕ
one_more n = min (n + 1) (2 ^ 64 - 1)

-- a count of faults rose: it is greater than before, or stands at the greatest number that it can
-- hold
abbrev pub Rose : ℕ → ℕ → Type 0
Rose before after = (before < after) ⊎ (after ≡ 2 ^ 64 - 1)

-- ---- reading

-- n bytes, at most `most`, were read to the end of a buffer; if the source tells its bytes they are
-- the first of them, and there are none only at the end
pub record Reads (left left' : Option (List ℕ)) (into into' : List ℕ) (most n : ℕ) : Type 0 where
  pub got : List ℕ
  pub appended : into' ≡ into ++ got
  pub counted : length got ≡ n
  pub few : n ≤ most
  pub told : (all : List ℕ) → left ≡ Some all → (rest : List ℕ) × (left' ≡ Some rest) × (all ≡ got ++ rest)
  pub ended : (all : List ℕ) → left ≡ Some all → n ≡ 0 → all ≡ []

-- what was told to be left is left
abbrev pub Unread : Option (List ℕ) → Option (List ℕ) → Type 0
Unread left left' = (all : List ℕ) → left ≡ Some all → left' ≡ Some all

-- the bytes are a beginning of what was left, the rest is left, and they go to the end or number
-- `limit`
abbrev pub ReadTo : Option (List ℕ) → Option (List ℕ) → List ℕ → ℕ → Type 0
ReadTo left left' bytes limit = (all : List ℕ) → left ≡ Some all
    → (rest : List ℕ) × (left' ≡ Some rest) × (all ≡ bytes ++ rest) × ((rest ≡ []) ⊎ (length bytes ≡ limit))

-- some beginning of what was left, at most `limit` bytes, was read, and the rest is left
abbrev pub ReadPart : Option (List ℕ) → Option (List ℕ) → ℕ → Type 0
ReadPart left left' limit = (all : List ℕ) → left ≡ Some all
    → (got : List ℕ) × (rest : List ℕ) × (left' ≡ Some rest) × (all ≡ got ++ rest) × (length got ≤ limit)

-- ---- writing

-- a sink gained exactly `out`: if it tells its bytes it told them before, and they are longer by
-- `out`
abbrev pub Gained : Option (List ℕ) → Option (List ℕ) → List ℕ → Type 0
Gained taken taken' out =
    (after : List ℕ) → taken' ≡ Some after → (before : List ℕ) × (taken ≡ Some before) × (after ≡ before ++ out)

-- a sink gained a beginning of `out`
abbrev pub GainedPart : Option (List ℕ) → Option (List ℕ) → List ℕ → Type 0
GainedPart taken taken' out = (front : List ℕ) × (back : List ℕ) × (out ≡ front ++ back) × Gained taken taken' front

-- a sink gained nothing
abbrev pub Unchanged : Option (List ℕ) → Option (List ℕ) → Type 0
Unchanged taken taken' = (after : List ℕ) → taken' ≡ Some after → taken ≡ Some after

-- a sink took the first n of the bytes
pub record Takes (taken taken' : Option (List ℕ)) (bytes : List ℕ) (n : ℕ) : Type 0 where
  pub front : List ℕ
  pub back : List ℕ
  pub split : bytes ≡ front ++ back
  pub counted : length front ≡ n
  pub gained : Gained taken taken' front
