-- What turns do to the core. A seat sees of a core its journal and its counts.
use Rattle.std.specs.Prelude.{◌≡◌, ℕ, Bool, List, [], ◌∷◌, Some, None, Result}
use Rattle.std.specs.Arc.{arc_value}
use Rattle.dice_key.specs.Meaning.{Meaning}
use Rattle.dice_key.specs.declared.universe.NoMemory.{NoMemory}
use Rattle.task_share.specs.Seen.{asked_of}
use Rattle.journal.specs.declared.event.Told.{Told}
use Rattle.dice_jobs.specs.Jobs.{Name, Assigned, Stepped}
use Rattle.core_laws.specs.Stands.{IsAtRest}
use Rattle.dice_tasks.specs.Hands.{tasks_of}
use Rattle.dice_core.specs.Cores.{CoreSeen, events_of, past_of, table_at, poll_of, IsJobOut}
use Rattle.job_line.specs.Ends.{AllBelow}
use Rattle.dice_engine.specs.Seats.{SeatView, found_empty}
use Rattle.dice_engine.specs.Turns.{left_of, Turn}
use Rattle.dice_engine.specs.Replies.{Reply, settled_of, Tells, IsLiveIn}
use Rattle.dice_engine.specs.Jobs.{GoesOut, LinesUp, ComesHome, CameOf}
use Rattle.dice_engine.specs.declared.promise.Promise.{Promise}
use Rattle.dice_engine.specs.declared.promise.Settled.{Settled}

module _ {K V : Type 0} (eq : K → K → Bool) (m : Meaning K V) where
  -- at each version the tasks of the core stand where they do by what its journal tells
  abbrev pub RestsByJournal : CoreSeen K V → Type 0
  RestsByJournal c = (v : ℕ) → IsAtRest eq m (past_of c) v (asked_of eq (table_at c.tables v))
      (tasks_of eq (table_at c.tables v))

  -- one turn, which found one core and left another: their journals are what the turn found and
  -- what the seat sees then, and the seat's counts are those of the core left; R says what became
  -- of it, before the ready jobs went on the line
  pub record TurnOver (old new : SeatView (Told K V))
      (R : CoreSeen K V → CoreSeen K V → Type 0) : Type 0 where
    pub turn : Turn eq m old new (λ found own work. own ≡ [])
    pub found : CoreSeen K V
    pub left : CoreSeen K V
    pub begins : events_of found ≡ turn.found
    pub ends : events_of left ≡ new.seen
    pub counts : left_of new.left.2 left ≡ new.left
    pub rests : RestsByJournal left
    pub done : CoreSeen K V
    pub did : R found done
    pub puts : List (Assigned K V)
    pub more : List (Assigned K V)
    pub lines_up : LinesUp eq puts more done left

  -- a turn that changed nothing, but that ready jobs went on the line
  abbrev pub Looks : SeatView (Told K V) → SeatView (Told K V) → Type 0
  Looks old new = TurnOver old new (λ c d. d ≡ c)

  -- the line was empty, and then there was such a turn, in which no task was ready
  abbrev pub FindsNothing : SeatView (Told K V) → SeatView (Told K V) → Type 0
  FindsNothing old new = TurnOver (found_empty old) new (GoesOut eq None)

  -- how a seat gets a job: its pass gains a place, above all those that it had; or it found the line
  -- empty, and then the job goes out in a turn
  pub data GetsJob (old mid : SeatView (Told K V)) (job : Assigned K V) : Type 0 where
    from_line : (place : ℕ) → AllBelow place old.places → mid ≡ record old { places = place ∷ old.places } → GetsJob old mid job
    from_core : TurnOver (found_empty old) mid (GoesOut eq (Some job)) → GetsJob old mid job

module _ {U K V R : Type 0} (eq : K → K → Bool) (m : Meaning K V) (p : Promise U K V R) where
  -- a turn that changed nothing; and if the promise's ask is live, the reply is what its key has
  -- come to in the core
  abbrev pub TellsOfCore : Reply K V → SeatView (Told K V) → SeatView (Told K V) → Type 0
  TellsOfCore r old new = TurnOver eq m old new (λ c d. (d ≡ c)
      × (IsLiveIn (events_of d) p.ask → Tells (poll_of eq m d p.version (arc_value p.key)) r))

module _ {K V : Type 0} (eq : K → K → Bool) (m : Meaning K V) (veq : V → V → Bool) where
  -- a turn in which what came of a job comes home
  abbrev pub TakesIn : Result (Stepped K V) (Name K) → SeatView (Told K V) → SeatView (Told K V)
      → Type 0
  TakesIn came old new = TurnOver eq m old new (ComesHome eq m veq came)

  -- a job is done: a seat gets it; in a turn what came of it outside comes home; and then, before
  -- ready jobs go on the line, it is out no more
  pub record DoesJob (old new : SeatView (Told K V)) : Type 0 where
    pub mid : SeatView (Told K V)
    pub job : Assigned K V
    pub came : Result (Stepped K V) (Name K)
    pub comes : CameOf eq m veq job came
    pub gets : GetsJob eq m old mid job
    pub home : TurnOver eq m mid new
        (λ c d. ComesHome eq m veq came c d × (IsJobOut eq d job → ⊥))

  -- nothing but looks and jobs that are done, one after another, and looks at the line that found it empty
  pub data WaitsOn (old : SeatView (Told K V)) : SeatView (Told K V) → Type 0 where
    begins : WaitsOn old old
    empty : {mid : SeatView (Told K V)} → WaitsOn old mid → WaitsOn old (found_empty mid)
    looks : {mid new : SeatView (Told K V)} → WaitsOn old mid → Looks eq m mid new → WaitsOn old new
    does : {mid new : SeatView (Told K V)} → WaitsOn old mid → DoesJob mid new → WaitsOn old new

module _ {U K V R : Type 0} (eq : K → K → Bool) (m : Meaning K V) (veq : V → V → Bool) (p : Promise U K V R) (r : Reply K V) where
  -- what came of a job comes home; and if the promise's ask is live, the reply is what its key has
  -- come to then
  abbrev pub GivesAndTells : Result (Stepped K V) (Name K) → CoreSeen K V → CoreSeen K V → Type 0
  GivesAndTells came c d = ComesHome eq m veq came c d × (IsLiveIn (events_of d) p.ask → Tells (poll_of eq m d p.version (arc_value p.key)) r)

  -- a turn that tells what the promise has come to: a look, or the one in which what came of a job comes home
  pub data TellsLast (old new : SeatView (Told K V)) : Type 0 where
    looked : TellsOfCore eq m p r old new → TellsLast old new
    gave : (mid : SeatView (Told K V)) (job : Assigned K V) (came : Result (Stepped K V) (Name K)) → GetsJob eq m old mid job → CameOf eq m veq job came → TurnOver eq m mid new (GivesAndTells came) → TellsLast old new

module _ {U K V R : Type 0} (eq : K → K → Bool) (m : Meaning K V) (veq : V → V → Bool) where
  -- and then what the promise settles to is told
  pub record WaitsFor (p : Promise U K V R) (r : Result (Settled U K V R) NoMemory)
      (old new : SeatView (Told K V)) : Type 0 where
    pub mid : SeatView (Told K V)
    pub waited : WaitsOn eq m veq old mid
    pub told : TellsLast eq m veq p (settled_of r) mid new
