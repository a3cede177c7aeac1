-- Walks along waits, over numbers.
use Rattle.std.specs.Prelude.{[], ◌∷◌, ◌++◌, ◌≡◌, ◌⊎◌, ◌<◌, ℕ, List, length, reverse, Some, slice_get, cond, nat_eq}
use Rattle.std.specs.List.{list_any}
use Rattle.lists.specs.Lists.{Has, AreDistinct}

-- a longer list, with all that stood where it stood
abbrev pub Grows : List ℕ → List ℕ → Type 0
Grows old new = (more : List ℕ) × (new ≡ old ++ more)

-- the number was noted with the index of its parent, unless it stood there before
pub record IsNoted (number parent : ℕ) (met parents later_met later_parents : List ℕ) : Type 0 where
  pub numbers : later_met ≡ met ++ cond (list_any (nat_eq number) met) [] (number ∷ [])
  pub indices : later_parents ≡ parents ++ cond (list_any (nat_eq number) met) [] (parent ∷ [])

-- these numbers were noted: each that was not there before came to the end, once
pub record NotesAll (numbers met later : List ℕ) : Type 0 where
  pub grows : Grows met later
  pub all : (m : ℕ) → Has numbers m → Has later m
  pub only : (m : ℕ) → Has later m → Has met m ⊎ Has numbers m
  pub distinct : AreDistinct met → AreDistinct later

module _ (waits : ℕ → List ℕ) where
  -- zero or more waits lead from one number to another
  pub data Reaches : ℕ → ℕ → Type 0 where
    stays : {n : ℕ} → Reaches n n
    waits_on : {n m k : ℕ} → Has (waits n) m → Reaches m k → Reaches n k

  -- all that is waited for is below this number
  abbrev pub AreBelow : ℕ → Type 0
  AreBelow count = (n m : ℕ) → Has (waits n) m → m < count

  -- just the numbers to which waits lead from the start, each once
  pub record AreAllFrom (start : ℕ) (met : List ℕ) : Type 0 where
    pub all : (n : ℕ) → Reaches start n → Has met n
    pub only : (n : ℕ) → Has met n → Reaches start n
    pub distinct : AreDistinct met

  -- the number at index i came there through the wait of an earlier one
  pub record CameBy (met parents : List ℕ) (i n : ℕ) : Type 0 where
    pub parent : ℕ
    pub by : ℕ
    pub noted : slice_get parents i ≡ Some parent
    pub earlier : parent < i
    pub there : slice_get met parent ≡ Some by
    pub wait : Has (waits by) n

  -- what a walk has met, which is not the goal: distinct numbers, each but the first through the wait of an earlier one
  pub record IsTrail (goal : ℕ) (met parents : List ℕ) : Type 0 where
    pub same : length parents ≡ length met
    pub distinct : AreDistinct met
    pub came : (i n : ℕ) → slice_get met i ≡ Some n → (i ≡ 0) ⊎ CameBy met parents i n
    pub fresh : Has met goal → ⊥

  -- the numbers before `head` were followed: what they wait for was met
  abbrev pub IsFollowed : List ℕ → ℕ → Type 0
  IsFollowed met head = (i n m : ℕ) → i < head → slice_get met i ≡ Some n → Has (waits n) m → Has met m

  -- the number at an index waits for this one
  pub record IsWaited (met : List ℕ) (head m : ℕ) : Type 0 where
    pub by : ℕ
    pub there : slice_get met head ≡ Some by
    pub wait : Has (waits by) m

  -- each waits for the next, and the last for the goal
  abbrev pub IsChain : ℕ → ℕ → List ℕ → Type 0
  IsChain goal n [] = Has (waits n) goal
  IsChain goal n (m ∷ ms) = Has (waits n) m × IsChain goal m ms

  -- distinct numbers from the start on, and not the goal; each waits for the next, and the last for the goal
  pub record IsWay (start goal : ℕ) (way : List ℕ) : Type 0 where
    pub rest : List ℕ
    pub begins : way ≡ start ∷ rest
    pub distinct : AreDistinct way
    pub apart : Has way goal → ⊥
    pub chain : IsChain goal start rest

  -- of such a way the part from the number at index i on, the last first: what comes after it was met after it
  pub record IsBack (met : List ℕ) (goal i : ℕ) (back : List ℕ) : Type 0 where
    pub from : ℕ
    pub rest : List ℕ
    pub there : slice_get met i ≡ Some from
    pub turned : reverse back ≡ from ∷ rest
    pub distinct : AreDistinct (from ∷ rest)
    pub chain : IsChain goal from rest
    pub later : (m : ℕ) → Has rest m → (j : ℕ) × (i < j) × (slice_get met j ≡ Some m)
