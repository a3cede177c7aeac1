-- The rule of the turnstile, which holds between any two steps.
-- Word 0 is the number of tickets that were given, and word 1 the number of turns that ended, both modulo 2^64. Word 2 is the version that is shown. The one slot has the state while no seat has it.
-- The list is that of the state at home or, while a seat has it, what that seat has seen.
use Rattle.std.specs.Prelude.{◌≡◌, ◌⊎◌, ℕ, ◌+◌, ◌%◌, ◌^◌, ◌<◌, ◌≤◌, List, [], ◌∷◌, ◌++◌, Bool, true, false, if◌then◌else◌, max, Option, Some, None}
use mathlib.Core.Option as core
use lib.ListN.{get_elem?}
use Rattle.atomic_table.specs.Table.{State}
use Rattle.turnstile.specs.declared.view.View.{View}
use Rattle.turnstile.specs.declared.view.Note.{Note}
use Rattle.turnstile.specs.declared.view.Stage.{Stage}
use Rattle.turnstile.specs.declared.view.Stage.TheVariants.{Away, Waits, Serves, Raises, Empties, Spent}
use Rattle.turnstile.specs.Events.{StartsWith, events_by, AllBelow, longer}
use Rattle.turnstile.specs.Seats.{EachNote}

module _ {E : Type 0} where
  -- no note has the number n
  abbrev pub Misses : ℕ → List (Note E) → Type 0
  Misses n [] = Unit {0}
  Misses n (x ∷ xs) = (n ≡ x.number → ⊥) × Misses n xs

  -- no two notes have one number
  abbrev pub OnceEach : List (Note E) → Type 0
  OnceEach [] = Unit {0}
  OnceEach (x ∷ xs) = Misses x.number xs × OnceEach xs

  abbrev pub first_view : ℕ → ℕ × ℕ → View E
  first_view n m = record { stage = Away; number = 0; spare_start = 1; spare_end = 2 ^ 32; seen = []; mine = []; ended = []; floor = 0; left = (0, 0, 0); turns = 0; writers = n; mark = m }

  abbrev pub spent_view : View E
  spent_view = record { stage = Spent; number = 0; spare_start = 0; spare_end = 0; seen = []; mine = []; ended = []; floor = 0; left = (0, 0, 0); turns = 0; writers = 0; mark = (0, 0) }

  -- a seat that keeps all spare numbers but the least
  abbrev pub parent_view : View E → View E
  parent_view v = record v { spare_start = v.spare_start + 1 }

  abbrev pub child_view : View E → View E
  child_view v = record { stage = Away; number = v.spare_start; spare_start = 0; spare_end = 0; seen = v.seen; mine = []; ended = []; floor = v.floor; left = (0, 0, 0); turns = 0; writers = v.writers; mark = v.mark }

  abbrev pub view_note : View E → View E → Note E
  view_note v w = record { number = w.number; mine = w.mine; seen = v.seen; theirs = w.seen }

  abbrev pub joined_view : View E → View E → View E
  joined_view v w = record v { seen = longer v.seen w.seen; floor = max v.floor w.floor; ended = view_note v w ∷ (v.ended ++ w.ended) }

abbrev pub HasTicket : Stage → ℕ → Type 0
HasTicket (Waits x) t = x ≡ t
HasTicket (Serves x) t = x ≡ t
HasTicket (Empties x) t = x ≡ t
HasTicket _ t = ⊥

-- what no word and no view shows: the tickets and turns as numbers without end; who has each ticket; whether the state is out, and whether it is out for good; the list; and for each number, which seat keeps it and as what (0: its own, 1: spare, 2: noted)
pub record World (E : Type 0) : Type 0 where
  pub next : ℕ
  pub serving : ℕ
  pub shown : ℕ
  pub out : Bool
  pub over : Bool
  pub owner : ℕ → ℕ
  pub tale : List E
  pub keeper : ℕ → ℕ
  pub kind : ℕ → ℕ

module _ {E : Type 0} (by : E → Option ℕ) (version : List E → ℕ) (writers : ℕ) (m : ℕ × ℕ) (w : World E) where
  -- what is known of a seat by where it is: a ticket that it has is one of those from `serving` up to `next`, and the state is out with the seat whose ticket is `serving` alone
  abbrev pub Knows : ℕ → List E → Stage → Type 0
  Knows id seen Away = version seen ≤ w.shown
  Knows id seen (Waits t) = (w.serving ≤ t) × (t < w.next) × (w.owner t ≡ id) × (w.out ≡ true → w.serving < t) × (version seen ≤ w.shown)
  Knows id seen (Serves t) = (t ≡ w.serving) × (t < w.next) × (w.owner t ≡ id) × (w.out ≡ true) × (w.over ≡ false) × (seen ≡ w.tale)
  Knows id seen Raises = Unit {0}
  Knows id seen (Empties t) = (t ≡ w.serving) × (t < w.next) × (w.owner t ≡ id) × (w.out ≡ true) × (w.over ≡ true)
  Knows id seen Spent = ⊥

  -- the seat id keeps the number n as such a kind, and the events es are all that tell it
  abbrev pub Stands : ℕ → ℕ → ℕ → List E → Type 0
  Stands id kind n es = (w.keeper n ≡ id) × (w.kind n ≡ kind) × (n < 2 ^ 32) × (events_by by n w.tale ≡ es)

  abbrev pub IsNoted : ℕ → Note E → Type 0
  IsNoted id x = Stands id 2 x.number x.mine × StartsWith w.tale x.seen × StartsWith w.tale x.theirs

  pub record Sits (id : ℕ) (v : View E) : Type 0 where
    pub knows : Knows id v.seen v.stage
    pub prefix : StartsWith w.tale v.seen
    pub own : Stands id 0 v.number v.mine
    pub mine : events_by by v.number v.seen ≡ v.mine
    pub spare : (n : ℕ) → v.spare_start ≤ n → n < v.spare_end → Stands id 1 n []
    pub noted : EachNote (IsNoted id) v.ended
    pub once : OnceEach v.ended
    pub floor : v.floor ≤ w.shown
    pub same_writers : v.writers ≡ writers
    pub same_mark : v.mark ≡ m

  abbrev pub Fits : ℕ → View E → Type 0
  Fits id v = (v.stage ≡ Spent) ⊎ Sits id v

abbrev pub slot_of : {S : Type 0} → Bool → Bool → S → core.Option (Option S)
slot_of out over x = if out then (if over then core.some None else core.none) else core.some (Some x)

pub record Turns {S E : Type 0} (list : S → List E) (by : E → Option ℕ) (version : List E → ℕ) (mark : S → ℕ × ℕ) (writers : ℕ) (m : ℕ × ℕ) (s : State (Option S) (View E)) : Type 0 where
  pub w : World E
  pub state : S
  pub words : s.words ≡ w.next % 2 ^ 64 ∷ w.serving % 2 ^ 64 ∷ w.shown ∷ []
  pub homes : s.homes ≡ slot_of w.out w.over state ∷ []
  pub at_home : w.out ≡ false → list state ≡ w.tale
  pub marked : w.out ≡ false → mark state ≡ m
  pub order : w.serving ≤ w.next
  pub busy : w.out ≡ true → w.serving < w.next
  pub tickets : (t : ℕ) → w.serving ≤ t → t < w.next → (v : View E) × (get_elem? s.views (w.owner t) ≡ core.some v) × HasTicket v.stage t
  pub seats : (id : ℕ) (v : View E) → get_elem? s.views id ≡ core.some v → Fits by version writers m w id v
  pub below : AllBelow by writers w.tale
  pub current : w.shown ≤ version w.tale
