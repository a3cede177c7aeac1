-- The rule of the line, which holds between any two steps: there is one list of puts, which the
-- putter knows whole. Some of its first places were taken, each by one pass, and the queue holds
-- the jobs at the others, in order.
use Rattle.std.specs.Prelude.{◌≡◌, ℕ, ◌<◌, ◌≤◌, List, [], ◌∷◌, ◌++◌, Bool, true, false, length, drop}
use mathlib.Core.List.{IsPrefix}
use mathlib.Core.Option as core
use lib.ListN.{get_elem?}
use Rattle.lists.specs.Lists.{Has, AreDistinct}
use Rattle.job_line.specs.declared.view.View.{View}
use Rattle.job_line.specs.Ends.{longer, Held, Gains}

-- the pass `id` took each of these places, which lie below `taken`
abbrev pub Owns : (ℕ → ℕ) → ℕ → ℕ → List ℕ → Type 0
Owns taker taken id places = (p : ℕ) → Has places p → (taker p ≡ id) × (p < taken)

module _ {J : Type 0} where
  abbrev pub viewed : Bool → List J → List ℕ → View J
  viewed putter seen places = record { putter = putter; seen = seen; places = places; met = [] }

  abbrev pub first_view : View J
  first_view = viewed true [] []

  -- a view that knows nothing
  abbrev pub no_view : View J
  no_view = viewed false [] []

  -- What an end knows: if it is the putter, it is the one, and has seen the whole list.
  pub record Fits (putter : ℕ) (puts : List J) (taken : ℕ) (taker : ℕ → ℕ) (id : ℕ) (v : View J) : Type 0 where
    pub whole : v.putter ≡ true → (id ≡ putter) × (v.seen ≡ puts)
    pub begins : IsPrefix v.seen puts
    pub own : Owns taker taken id v.places
    pub apart : AreDistinct v.places
    pub met : IsPrefix v.met puts

  pub record Lined (items : List J) (views : List (View J)) : Type 0 where
    pub putter : ℕ
    pub puts : List J
    pub taken : ℕ
    pub taker : ℕ → ℕ
    pub within : taken ≤ length puts
    pub left : drop taken puts ≡ items
    pub each : (id : ℕ) (v : View J) → get_elem? views id ≡ core.some v → Fits putter puts taken taker id v

  -- a push: the putter's list grows by the job
  abbrev pub pushed : View J → J → View J → Type 0
  pushed v job w = (w.putter ≡ v.putter) × (w.seen ≡ v.seen ++ job ∷ []) × (w.places ≡ v.places)

  -- a pop: the pass gains the first place that was not taken
  abbrev pub popped : View J → J → View J → Type 0
  popped v job w = (w.putter ≡ v.putter) × Gains job v.seen w.seen v.places w.places

  -- a look at what the queue holds
  abbrev pub looked : View J → List J → Type 0
  looked v items = Held items v.seen v.places

  -- the view of a pass that is split off
  abbrev pub child_view : View J → View J
  child_view v = viewed false v.seen []

  abbrev pub joined_view : View J → View J → View J
  joined_view v w = viewed v.putter (longer v.seen w.seen) (v.places ++ w.places)

  -- the view of an end that met a pass
  abbrev pub met_view : View J → View J → View J
  met_view v w = record v { met = w.seen }

  -- a putter has put all that a pass had seen that it met
  abbrev pub met_all : View J → List J → Type 0
  met_all v items = v.putter ≡ true → IsPrefix v.met v.seen
