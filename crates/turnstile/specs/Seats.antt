-- What a seat sees, and what the calls do to it.
use Rattle.std.specs.Prelude.{◌≡◌, ℕ, ◌-◌, ◌^◌, ◌<◌, ◌≤◌, List, [], ◌∷◌, Bool, true, false, Option}
use Rattle.atomic_table.specs.Seated.{TableId}
use Rattle.turnstile.specs.declared.view.Note.{Note}
use Rattle.turnstile.specs.declared.view.Stage.{Stage}
use Rattle.turnstile.specs.declared.view.Stage.TheVariants.{Away, Spent}
use Rattle.turnstile.specs.declared.view.View.{View}
use Rattle.turnstile.specs.Events.{StartsWith, events_by}

-- A seat as its holder sees it: which turnstile it is of, and whether it is away, that is outside a turn.
-- It has a number, and spare numbers from `spare_start` up to `spare_end`, which is not one of them. `seen` is a beginning of the turnstile's list, and `mine` its events there. `ended` notes the seats that were joined to it. The shown version is `floor` or more. `left` is the tally of the state as this seat last gave it back, and `turns` counts its turns. `writers` and `mark` are the turnstile's.
pub record SeatView (E : Type 0) : Type 0 where
  pub turnstile : TableId
  pub away : Bool
  pub number : ℕ
  pub spare_start : ℕ
  pub spare_end : ℕ
  pub seen : List E
  pub mine : List E
  pub ended : List (Note E)
  pub floor : ℕ
  pub left : ℕ × ℕ × ℕ
  pub turns : ℕ
  pub writers : ℕ
  pub mark : ℕ × ℕ

abbrev pub is_away : Stage → Bool
is_away Away = true
is_away _ = false

module _ {E : Type 0} where
  -- the seat is outside a turn
  abbrev pub IsAway : SeatView E → Type 0
  IsAway s = s.away ≡ true

  -- the seat is of that turnstile, and outside a turn
  abbrev pub IsSeatOf : TableId → SeatView E → Type 0
  IsSeatOf turnstile s = (s.turnstile ≡ turnstile) × IsAway s

  -- how many numbers it may give away
  abbrev pub spare : SeatView E → ℕ
  spare s = s.spare_end - s.spare_start

  -- the seat may make events that tell its number
  abbrev pub IsWriter : SeatView E → Type 0
  IsWriter s = s.number < s.writers

  -- the first seat of a turnstile with so many writers and this mark
  abbrev pub first_seat : TableId → ℕ → ℕ × ℕ → SeatView E
  first_seat turnstile writers mark = record {
    turnstile = turnstile;
    away = true;
    number = 0;
    spare_start = 1;
    spare_end = 2 ^ 32;
    seen = [];
    mine = [];
    ended = [];
    floor = 0;
    left = (0, 0, 0);
    turns = 0;
    writers = writers;
    mark = mark;
  }

  -- the seat in a turn, in which it found the list xs
  abbrev pub in_turn : SeatView E → List E → SeatView E
  in_turn s xs = record s { away = false; seen = xs }

  -- a turn leaves the turnstile, the numbers and what was noted, and the seat is away again
  abbrev pub IsAfterTurn : SeatView E → SeatView E → Type 0
  IsAfterTurn old new = new ≡ record old { away = true; seen = new.seen; mine = new.mine; floor = new.floor; left = new.left; turns = new.turns }

  -- the seat that is split off: it has the least spare number, and has seen what the other has
  abbrev pub split_off : SeatView E → SeatView E
  split_off s = record s { number = s.spare_start; spare_start = 0; spare_end = 0; mine = []; ended = []; left = (0, 0, 0); turns = 0 }

  -- what is noted of the seat t when s takes it in
  abbrev pub note_of : SeatView E → SeatView E → Note E
  note_of s t = record { number = t.number; mine = t.mine; seen = s.seen; theirs = t.seen }

  abbrev pub EachNote : (Note E → Type 0) → List (Note E) → Type 0
  EachNote P [] = Unit {0}
  EachNote P (x ∷ xs) = P x × EachNote P xs

  -- in the list xs the number that is noted has just the events that are noted, and what both seats had seen begins the list
  abbrev pub NotedIn : (E → Option ℕ) → List E → Note E → Type 0
  NotedIn by xs x = StartsWith xs x.seen × StartsWith xs x.theirs × (events_by by x.number xs ≡ x.mine)

-- what a view shows of its seat
module _ {E : Type 0} where
  abbrev pub view_of : TableId → View E → SeatView E
  view_of id v = record {
    turnstile = id;
    away = is_away v.stage;
    number = v.number;
    spare_start = v.spare_start;
    spare_end = v.spare_end;
    seen = v.seen;
    mine = v.mine;
    ended = v.ended;
    floor = v.floor;
    left = v.left;
    turns = v.turns;
    writers = v.writers;
    mark = v.mark;
  }

  abbrev pub no_view : View E
  no_view = record { stage = Spent; number = 0; spare_start = 0; spare_end = 0; seen = []; mine = []; ended = []; floor = 0; left = (0, 0, 0); turns = 0; writers = 0; mark = (0, 0) }

  -- a badge with a view shows that, and a blank one shows nothing
  abbrev pub badge_view : TableId → List (View E) → SeatView E
  badge_view id [] = view_of id no_view
  badge_view id (v ∷ vs) = view_of id v

  -- the views of a badge are one view of a seat that is away, or none
  abbrev pub IsOneAway : List (View E) → Type 0
  IsOneAway [] = Unit {0}
  IsOneAway (v ∷ vs) = (vs ≡ []) × (v.stage ≡ Away)

  -- the fields of a seat tell what its view shows
  pub record IsSeat (s : SeatView E) (views : List (View E)) (own first end : ℕ) (tally : ℕ × ℕ × ℕ) : Type 0 where
    pub one_away : IsOneAway views
    pub number : s.number ≡ own
    pub spare_start : s.spare_start ≡ first
    pub spare_end : s.spare_end ≡ end
    pub left : s.left ≡ tally
    pub ordered : first ≤ end
