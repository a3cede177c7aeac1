-- What a seat of an engine sees: what its seat of the turnstile sees, and how often its pass found the line of jobs empty.
use Rattle.std.specs.Prelude.{◌≡◌, ℕ, min, ◌+◌, ◌-◌, ◌^◌, ◌<◌, List, [], Bool, true}
use base.Stored.{Coded, coded×, coded_ℕ, coded_via}
use Rattle.atomic_table.specs.Seated.{TableId, table_id_coded}
use Rattle.job_line.specs.Ends.{LineId, PassView}
use Rattle.turnstile.specs.declared.view.Note.{Note}
use Rattle.turnstile.specs.Seats.{SeatView as Place}

-- which engine it is: its turnstile and its line of jobs
pub record EngineId : Type 0 where
  pub turnstile : TableId
  pub line : LineId

abbrev pub engine_id_coded : Coded EngineId
engine_id_coded = coded_via (coded× table_id_coded (coded× coded_ℕ coded_ℕ)) (λ (e : EngineId). (e.turnstile, e.line.web)) (λ x y e i. record { turnstile = (e i).0; line = record { web = (e i).1; heap = y.line.heap } })

-- A seat of an engine as its holder sees it: a seat of its turnstile and a pass to its line of jobs. `places` are those of the jobs that it
-- took from the line, the latest first, and `empties` counts how often it found the line empty. All else is as of a seat of the turnstile.
pub record SeatView (E : Type 0) : Type 0 where
  pub engine : EngineId
  pub away : Bool
  pub number : ℕ
  pub spare_start : ℕ
  pub spare_end : ℕ
  pub seen : List E
  pub mine : List E
  pub ended : List (Note E)
  pub floor : ℕ
  pub left : ℕ × ℕ × ℕ
  pub turns : ℕ
  pub writers : ℕ
  pub places : List ℕ
  pub empties : ℕ

module _ {E : Type 0} where
  -- the pass and the place at the turnstile
  abbrev pub seated : {J : Type 0} → PassView J → Place E → SeatView E
  seated p s = record {
    engine = record { turnstile = s.turnstile; line = p.line };
    away = s.away;
    number = s.number;
    spare_start = s.spare_start;
    spare_end = s.spare_end;
    seen = s.seen;
    mine = s.mine;
    ended = s.ended;
    floor = s.floor;
    left = s.left;
    turns = s.turns;
    writers = s.writers;
    places = p.places;
    empties = p.empties;
  }

  -- the pass and the place are of that engine, and outside a turn
  abbrev pub AreOf : {J : Type 0} → EngineId → PassView J → Place E → Type 0
  AreOf engine p s = (s.turnstile ≡ engine.turnstile) × (s.away ≡ true) × (p.line ≡ engine.line) × (s.mark ≡ p.line.web)

  -- the seat is outside a turn
  abbrev pub IsAway : SeatView E → Type 0
  IsAway s = s.away ≡ true

  -- the seat is of that engine, and outside a turn
  abbrev pub IsSeatOf : EngineId → SeatView E → Type 0
  IsSeatOf engine s = (s.engine ≡ engine) × IsAway s

  -- how many numbers it may give away
  abbrev pub spare : SeatView E → ℕ
  spare s = s.spare_end - s.spare_start

  -- the seat may make events that tell its number
  abbrev pub IsWriter : SeatView E → Type 0
  IsWriter s = s.number < s.writers

  -- the first seat of an engine with so many writers
  abbrev pub first_seat : EngineId → ℕ → SeatView E
  first_seat engine writers = record {
    engine = engine;
    away = true;
    number = 0;
    spare_start = 1;
    spare_end = 2 ^ 32;
    seen = [];
    mine = [];
    ended = [];
    floor = 0;
    left = (0, 0, 0);
    turns = 0;
    writers = writers;
    places = [];
    empties = 0;
  }

  -- turns leave the engine, the numbers and what was noted, and the seat is away again
  abbrev pub IsAfterTurn : SeatView E → SeatView E → Type 0
  IsAfterTurn old new = new ≡ record old { away = true; seen = new.seen; mine = new.mine; floor = new.floor; left = new.left; turns = new.turns; places = new.places; empties = new.empties }

  -- the seat that is split off: it has the least spare number, and has seen what the other has
  abbrev pub split_off : SeatView E → SeatView E
  split_off s = record s { number = s.spare_start; spare_start = 0; spare_end = 0; mine = []; ended = []; left = (0, 0, 0); turns = 0; places = []; empties = 0 }

  -- the seat once its pass found the line empty: the count stands still at its type's end
  abbrev pub found_empty : SeatView E → SeatView E
  found_empty s = record s { empties = min (s.empties + 1) (2 ^ 64 - 1) }

  -- what is noted of the seat t when s takes it in
  abbrev pub note_of : SeatView E → SeatView E → Note E
  note_of s t = record { number = t.number; mine = t.mine; seen = s.seen; theirs = t.seen }
