-- What a turn of a seat comes to. Of the events that it adds one at most tells a number, that of the seat; all others are of tasks.
use Rattle.std.specs.Prelude.{◌≡◌, ◌<◌, ◌≤◌, ℕ, ◌+◌, List, [], ◌++◌, Bool, length, reverse, Some}
use Rattle.std.specs.List.{AllByRecursion}
use Rattle.dice_key.specs.Meaning.{Meaning}
use Rattle.journal.specs.declared.event.Told.{Told}
use Rattle.journal.specs.Events.{commits_of}
use Rattle.journal.specs.Tell.{event_by}
use Rattle.journal.specs.Law.{IsLawfulJournal}
use Rattle.dice_core.specs.Cores.{CoreSeen, IsWorkAt}
use Rattle.turnstile.specs.Events.{StartsWith, events_by, AllBelow}
use Rattle.turnstile.specs.Seats.{EachNote, NotedIn}
use Rattle.dice_engine.specs.Seats.{SeatView, IsAfterTurn}

module _ {K V : Type 0} where
  -- the commits of a journal, in order
  abbrev pub log_of : List (Told K V) → List (List (K × V))
  log_of J = commits_of (reverse J)

  -- how many there are, which is the newest version
  abbrev pub newest_in : List (Told K V) → ℕ
  newest_in J = length (log_of J)

  -- how many tasks are ready, how many jobs are out, and the mark of the shelf, which is 0 if it has all rows
  abbrev pub left_of : ℕ → CoreSeen K V → ℕ × ℕ × ℕ
  left_of mark c = (length c.desk.ready, length c.desk.out, mark)

  -- each of the events tells the number n
  abbrev pub AreBy : ℕ → List (Told K V) → Type 0
  AreBy n es = AllByRecursion (λ e. event_by e ≡ Some n) es

  -- the events are of tasks at one version, and so tell no number
  abbrev pub AreOfTasks : List (Told K V) → Type 0
  AreOfTasks es = (v : ℕ) × AllByRecursion (IsWorkAt v) es

  -- only events of tasks were added
  abbrev pub WorksOn : List (Told K V) → List (Told K V) → Type 0
  WorksOn J I = (es : List (Told K V)) × (I ≡ J ++ es) × AreOfTasks es

module _ {K V : Type 0} (eq : K → K → Bool) (m : Meaning K V) where
  -- for the seat n the journal J became I: its own events were added, and then events of tasks; P says which
  pub record Adds (n : ℕ) (J I : List (Told K V)) (P : List (Told K V) → List (Told K V) → Type 0) : Type 0 where
    pub own : List (Told K V)
    pub work : List (Told K V)
    pub journal : I ≡ J ++ (own ++ work)
    pub by : AreBy n own
    pub of_tasks : AreOfTasks work
    pub lawful : IsLawfulJournal eq m I
    pub did : P own work

  -- the seat later, after one turn of its own or more
  pub record Later (old new : SeatView (Told K V)) : Type 0 where
    -- it is the same seat, away again
    pub same : IsAfterTurn old new
    pub turns : old.turns < new.turns
    -- it has seen all that it had seen, and in one lawful journal
    pub begins : StartsWith new.seen old.seen
    pub lawful : IsLawfulJournal eq m new.seen
    -- all its own events are in `mine`, and of each seat that was joined to it what was noted
    pub mine : new.mine ≡ events_by event_by new.number new.seen
    pub noted : EachNote (NotedIn event_by new.seen) new.ended
    pub below : AllBelow event_by new.writers new.seen
    -- it knows of all versions that it knew of, and of those that it has seen
    pub floor : old.floor ≤ new.floor
    pub newest : newest_in new.seen ≤ new.floor

  -- one turn: the journal as it was found begins with what the seat had seen, and has of its events those that it knew of; and
  -- P says which events of its own, and which of tasks, were added to it
  pub record Turn (old new : SeatView (Told K V)) (P : List (Told K V) → List (Told K V) → List (Told K V) → Type 0) : Type 0 where
    pub found : List (Told K V)
    pub begins : StartsWith found old.seen
    pub found_mine : events_by event_by old.number found ≡ old.mine
    pub found_floor : old.floor ≤ newest_in found
    pub adds : Adds old.number found new.seen (P found)
    pub mine : new.mine ≡ old.mine ++ adds.own
    pub turns : new.turns ≡ old.turns + 1
    pub later : Later old new

  -- no, one or more turns of the seat, in which only events of tasks were added
  pub data Works (old : SeatView (Told K V)) : SeatView (Told K V) → Type 0 where
    rests : Works old old
    works : {mid new : SeatView (Told K V)} → Works old mid → Turn mid new (λ found own work. own ≡ []) → Works old new
