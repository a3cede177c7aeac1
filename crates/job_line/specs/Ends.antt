-- What the two ends of a line know, and what the calls do to them.
use Rattle.std.specs.Prelude.{◌≡◌, ℕ, ◌+◌, ◌-◌, ◌^◌, ◌<◌, ◌≤◌, List, [], ◌∷◌, ◌++◌, length, drop, slice_get, if◌then◌else◌, nat_le, min, Some}
use Rattle.std.specs.Global.{Global}
use mathlib.Core.List.{IsPrefix}
use Rattle.crossbeam_queue.specs.SegTies.{SegId}
use Rattle.lists.specs.Lists.{Has, AreDistinct}

-- which line it is
abbrev pub LineId : Type 0
LineId = SegId Global

-- The putter of a line: which line, and all jobs that were put, in order.
pub record PutterView (J : Type 0) : Type 0 where
  pub line : LineId
  pub puts : List J

-- A pass: of which line, the beginning of the list of puts that it has seen, the places of the jobs
-- that it took, and how often it found the line empty.
pub record PassView (J : Type 0) : Type 0 where
  pub line : LineId
  pub seen : List J
  pub places : List ℕ
  pub empties : ℕ

-- each of these places lies below n
abbrev pub AllBelow : ℕ → List ℕ → Type 0
AllBelow n places = (p : ℕ) → Has places p → p < n

module _ {J : Type 0} where
  -- the longer of two lists
  abbrev pub longer : List J → List J → List J
  longer xs ys = if nat_le (length ys) (length xs) then xs else ys

  abbrev pub first_putter : LineId → PutterView J
  first_putter line = record { line = line; puts = [] }

  abbrev pub first_pass : LineId → PassView J
  first_pass line = record { line = line; seen = []; places = []; empties = 0 }

  -- the putter once it has put the job
  abbrev pub with_job : PutterView J → J → PutterView J
  with_job v job = record v { puts = v.puts ++ job ∷ [] }

  -- At one moment the line held these items: of the list of puts those from the place `taken` on,
  -- and the jobs before that place were taken. A pass had then seen a beginning of the list, and
  -- had taken some of the places before that one, each once.
  pub record Held (items : List J) (seen : List J) (places : List ℕ) : Type 0 where
    pub puts : List J
    pub taken : ℕ
    pub within : taken ≤ length puts
    pub left : drop taken puts ≡ items
    pub begins : IsPrefix seen puts
    pub below : AllBelow taken places
    pub apart : AreDistinct places

  -- A pass took the job: it sees the list of puts as it is at that moment, and gains the place of
  -- the job in it, the first that was not taken. So that place lies above those that the pass had.
  pub record Gains (job : J) (old_seen new_seen : List J) (old_places new_places : List ℕ) : Type 0 where
    pub place : ℕ
    pub job_there : slice_get new_seen place ≡ Some job
    pub begins : IsPrefix old_seen new_seen
    pub first : AllBelow place old_places
    pub gained : new_places ≡ place ∷ old_places
    pub apart : AreDistinct new_places

  abbrev pub Took : PassView J → J → PassView J → Type 0
  Took old job new = Gains job old.seen new.seen old.places new.places × (new ≡ record old { seen = new.seen; places = new.places })

  -- the pass once it found the line empty: the count stands still at its type's end
  abbrev pub after_empty : PassView J → PassView J
  after_empty v = record v { empties = min (v.empties + 1) (2 ^ 64 - 1) }

  -- the pass that is split off: it has seen what the other has, and took nothing
  abbrev pub split_off : PassView J → PassView J
  split_off v = record v { places = []; empties = 0 }

  -- the pass that took another in: it has the longer list, and the places of both
  abbrev pub joined : PassView J → PassView J → PassView J
  joined v w = record v { seen = longer v.seen w.seen; places = v.places ++ w.places }
