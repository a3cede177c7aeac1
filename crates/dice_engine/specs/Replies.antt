-- What a poll, or a wait, answers.
use Rattle.std.specs.Prelude.{◌≡◌, ◌≢◌, ◌⊎◌, ℕ, Bool, true, List, reverse, Option, Some, None, is_some, Result, Ok, Err}
use Rattle.std.specs.Arc.{arc_value}
use Rattle.dice_key.specs.Meaning.{Meaning}
use Rattle.dice_key.specs.declared.universe.Kind.TheVariants.{Injected}
use Rattle.dice_key.specs.declared.universe.NoMemory.{NoMemory}
use Rattle.dice_model.specs.Eval.{HasValue}
use Rattle.journal.specs.declared.event.Told.{Told}
use Rattle.journal.specs.Events.{Decision, ByValue, ByCycle, decided, live_at, lost_in_epoch}
use Rattle.journal.specs.Law.{CycleStands}
use Rattle.dice_core.specs.Cores.{Came, ToValue, ToCycle, ToNothing, Pending, Absent}
use Rattle.dice_engine.specs.Turns.{log_of}
use Rattle.dice_engine.specs.declared.promise.Answer.{Answer}
use Rattle.dice_engine.specs.declared.promise.Answer.TheVariants as answer
use Rattle.dice_engine.specs.declared.promise.Settled.{Settled}
use Rattle.dice_engine.specs.declared.promise.Settled.TheVariants as settled

-- an answer without pointers: the ask is not live; the key has not come to anything yet; its value; a cycle that it reaches; or
-- memory was refused
pub data Reply (K V : Type 0) : Type 0 where
  NotLive : Reply K V
  NotYet : Reply K V
  TheValue : V → Reply K V
  TheCycle : List K → Reply K V
  NoRoom : Reply K V

module _ {U K V R : Type 0} where
  abbrev pub answer_to : Answer U K V R → Reply K V
  answer_to answer.Gone = NotLive
  answer_to answer.Pending = NotYet
  answer_to (answer.Value x) = TheValue (arc_value x)
  answer_to (answer.Cycle p) = TheCycle (arc_value p)

  abbrev pub reply_of : Result (Answer U K V R) NoMemory → Reply K V
  reply_of (Ok a) = answer_to a
  reply_of (Err e) = NoRoom

  abbrev pub settled_to : Settled U K V R → Reply K V
  settled_to settled.Gone = NotLive
  settled_to (settled.Value x) = TheValue (arc_value x)
  settled_to (settled.Cycle p) = TheCycle (arc_value p)

  abbrev pub settled_of : Result (Settled U K V R) NoMemory → Reply K V
  settled_of (Ok a) = settled_to a
  settled_of (Err e) = NoRoom

-- what a key has come to in the core is told; memory may be refused if a value or a cycle is told, and it is refused if the key was
-- given up since no memory was left
module _ {K V : Type 0} where
  abbrev pub Tells : Came K V → Reply K V → Type 0
  Tells (ToValue x) r = (r ≡ TheValue x) ⊎ (r ≡ NoRoom)
  Tells (ToCycle p) r = (r ≡ TheCycle p) ⊎ (r ≡ NoRoom)
  Tells ToNothing r = r ≡ NoRoom
  Tells Pending r = r ≡ NotYet
  Tells Absent r = ⊥

  -- the ask of this index was not left, and its transaction is open
  abbrev pub IsLiveIn : List (Told K V) → ℕ → Type 0
  IsLiveIn J ask = is_some (live_at (reverse J) ask) ≡ true

-- some task is ready, or some job is out
abbrev pub IsBusy : ℕ × ℕ × ℕ → Type 0
IsBusy left = (left.0 ≡ 0) → (left.1 ≡ 0) → ⊥

module _ {K V : Type 0} (eq : K → K → Bool) (m : Meaning K V) (J : List (Told K V)) (v : ℕ) (k : K) where
  -- how the key was decided in the epoch of its version
  abbrev pub decision : Option Decision
  decision = decided eq (reverse J) v k

  -- the key has a value: it is injected, or was decided so
  abbrev pub IsValued : Type 0
  IsValued = (m.kind k ≡ Injected) ⊎ (decision ≡ Some ByValue)

  -- memory may be refused: for the answer, if the key is injected or decided; or it was refused before, and the key was given up
  abbrev pub MayRefuse : Type 0
  MayRefuse = (m.kind k ≡ Injected) ⊎ ((d : Decision) × (decision ≡ Some d)) ⊎ (lost_in_epoch eq (reverse J) v k ≡ true)

  -- the reply is true of the journal J, in which the key was asked for at v by this ask; so much work was left
  abbrev pub IsReply : ℕ → ℕ × ℕ × ℕ → Reply K V → Type 0
  IsReply ask left NotLive = live_at (reverse J) ask ≡ None
  IsReply ask left NotYet = IsLiveIn J ask × (m.kind k ≢ Injected) × (decision ≡ None) × IsBusy left
  IsReply ask left (TheValue x) = IsLiveIn J ask × IsValued × HasValue eq m (log_of J) v k x
  IsReply ask left (TheCycle p) = IsLiveIn J ask × (m.kind k ≢ Injected) × (decision ≡ Some ByCycle) × CycleStands eq m (log_of J) v k p
  IsReply ask left NoRoom = IsLiveIn J ask × MayRefuse
