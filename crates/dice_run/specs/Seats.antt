-- What the driver's seat knows: it is the one writer, so it knows of all commits, and of its own transactions and asks whether they are open.
use Rattle.std.specs.Prelude.{◌≡◌, ◌≤◌, ℕ, List, [], ◌∷◌, ◌++◌, length, take}
use Rattle.std.specs.Arc.{arc_value}
use Rattle.dice_engine.specs.Seats.{EngineId}
use Rattle.dice_model.specs.Eval.{HasValue}
use Rattle.journal.specs.declared.event.Told.{Told}
use Rattle.journal.specs.declared.event.Told.TheVariants.{Open, Ask}
use Rattle.journal.specs.Law.{IsLawfulJournal, CycleStands}
use Rattle.journal.specs.Tell.{event_by}
use Rattle.journal.specs.Events.{event_of}
use Rattle.turnstile.specs.Events.{StartsWith, events_by, AllBelow}
use Rattle.dice_engine.specs.Seats.{SeatView, IsSeatOf}
use Rattle.dice_engine.specs.Turns.{log_of}
use Rattle.dice_engine.specs.Calls.{differing_from}
use Rattle.dice_engine.specs.Conditions.{HasOpen, HasAsk}
use Rattle.action_digest.specs.declared.key.Key.{Key}
use Rattle.action_digest.specs.declared.value.Value.{Value}
use Rattle.action_digest.specs.Buck.{buck}
use Rattle.action_digest.specs.Same.{key_equal, value_equal}
use Rattle.dice_run.specs.declared.client.Came.{Came}
use Rattle.dice_run.specs.declared.client.Came.TheVariants as came

abbrev pub Place : Type 0
Place = SeatView (Told Key Value)

-- the commits that the seat knows of, in order
abbrev pub log_in : Place → List (List (Key × Value))
log_in s = log_of s.mine

-- it is the first seat of this engine, and the one writer
pub record IsOurs (id : EngineId) (s : Place) : Type 0 where
  pub seat : IsSeatOf id s
  pub number : s.number ≡ 0
  pub writers : s.writers ≡ 1
  pub lawful : IsLawfulJournal key_equal buck s.seen
  pub mine : events_by event_by 0 s.seen ≡ s.mine
  pub below : AllBelow event_by 1 s.seen

-- after turns of its own, or none, in which it added these events
pub record Goes (id : EngineId) (s u : Place) (own : List (Told Key Value)) : Type 0 where
  pub ours : IsOurs id u
  pub number : u.number ≡ s.number
  pub begins : StartsWith u.seen s.seen
  pub mine : u.mine ≡ s.mine ++ own

-- after turns of its own that added nothing
abbrev pub Rests : EngineId → Place → Place → Type 0
Rests id s u = IsOurs id u × StartsWith u.seen s.seen × (u.mine ≡ s.mine)

-- the pairs that differ were committed
abbrev pub Commits : EngineId → Place → Place → List (Key × Value) → Type 0
Commits id s u ps = Goes id s u (event_of 0 (differing_from key_equal value_equal buck (log_in s) ps))

-- a transaction was opened, at the newest version; no earlier event has its index, and the seat's own events before that are those of before
pub record Opens (id : EngineId) (s u : Place) (opened version : ℕ) : Type 0 where
  pub goes : Goes id s u (Open 0 version ∷ [])
  pub newest : version ≡ length (log_in s)
  pub has : HasOpen u opened version
  pub new : length s.seen ≤ opened
  pub before : events_by event_by 0 (take opened u.seen) ≡ s.mine

-- a key was asked for in a transaction; no earlier event has the index of the ask
pub record Asks (id : EngineId) (s u : Place) (ask opened version : ℕ) (k : Key) : Type 0 where
  pub goes : Goes id s u (Ask 0 opened k ∷ [])
  pub has : HasAsk u ask opened version k
  pub new : length s.seen ≤ ask
  pub before : events_by event_by 0 (take ask u.seen) ≡ s.mine

-- what a key has come to at v: its value, or a cycle that it reaches
abbrev pub IsCome : List (List (Key × Value)) → ℕ → Key → Came → Type 0
IsCome C v k (came.Value x) = HasValue key_equal buck C v k (arc_value x)
IsCome C v k (came.Cycle p) = CycleStands key_equal buck C v k (arc_value p)
