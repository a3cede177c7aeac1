-- What the seat of a session knows: it is the one writer, so it knows of all commits, and of its
-- transactions and asks whether they are open.
use Rattle.std.specs.Prelude.{◌≡◌, ℕ, List, Option, IfSome}
use Rattle.std.specs.Arc.{arc_value}
use Rattle.std.specs.List.{AllByRecursion}
use Rattle.dice_engine.specs.Seats.{EngineId}
use Rattle.journal.specs.declared.event.Told.{Told}
use Rattle.journal.specs.Tell.{event_by}
use Rattle.turnstile.specs.Events.{StartsWith, events_by, AllBelow}
use Rattle.dice_engine.specs.Seats.{SeatView, IsSeatOf}
use Rattle.dice_engine.specs.Turns.{log_of, newest_in}
use Rattle.dice_engine.specs.Conditions.{HasOpen, HasAsk}
use Rattle.dice_engine.specs.declared.promise.Promise.{Promise}
use Rattle.dice_engine.specs.declared.promise.Transaction.{Transaction}

module _ {K V : Type 0} where
  -- the seat is the first of this engine, and the one writer: it knows of all events that tell a
  -- number
  pub record IsSole (id : EngineId) (s : SeatView (Told K V)) : Type 0 where
    pub seat : IsSeatOf id s
    pub number : s.number ≡ 0
    pub writers : s.writers ≡ 1
    pub mine : events_by event_by 0 s.seen ≡ s.mine
    pub below : AllBelow event_by 1 s.seen

  -- after turns of its own that committed nothing
  pub record Goes (id : EngineId) (s u : SeatView (Told K V)) : Type 0 where
    pub sole : IsSole id u
    pub begins : StartsWith u.seen s.seen
    pub log : log_of u.seen ≡ log_of s.seen

  -- it has opened this transaction at the newest version, and has not closed it
  pub record IsOpen (s : SeatView (Told K V)) (opened version : ℕ) : Type 0 where
    pub has : HasOpen s opened version
    pub newest : version ≡ newest_in s.seen

  -- between two calls: it is the one writer, and has open the transaction that is kept for the next
  -- call, if any
  pub record IsReady (id : EngineId) (s : SeatView (Told K V)) (kept : Option Transaction) : Type 0 where
    pub sole : IsSole id s
    pub still : IfSome kept (λ t. IsOpen s t.opened t.version)

  -- after turns of its own in this transaction, which stays open, as its asks stay
  pub record Asks (id : EngineId) (s u : SeatView (Told K V)) (opened version : ℕ) : Type 0 where
    pub goes : Goes id s u
    pub still : IsOpen u opened version
    pub keeps : (ask : ℕ) (k : K) → HasAsk s ask opened version k → HasAsk u ask opened version k

-- the promise is of an ask for this key, in this transaction
module _ {U K V R : Type 0} where
  pub record IsAsked (s : SeatView (Told K V)) (opened version : ℕ) (k : K) (p : Promise U K V R) : Type 0 where
    pub same_key : arc_value p.key ≡ k
    pub same_opened : p.opened ≡ opened
    pub same_version : p.version ≡ version
    pub has : HasAsk s p.ask opened version k

  -- each promise is of an ask in this transaction
  abbrev pub AreAsked : SeatView (Told K V) → ℕ → ℕ → List (Promise U K V R) → Type 0
  AreAsked s opened version ps = AllByRecursion (λ p. IsAsked s opened version (arc_value p.key) p) ps
