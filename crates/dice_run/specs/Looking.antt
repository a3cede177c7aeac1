-- What the driver sees by its reader, and what it knows of the promises that a look answered.
use Rattle.std.specs.Prelude.{◌≡◌, ◌≢◌, ◌≤◌, ℕ, false, List}
use Rattle.std.specs.Option.{ForSome}
use Rattle.std.specs.Arc.{arc_value}
use Rattle.dice_key.specs.declared.universe.Kind.TheVariants.{Injected}
use Rattle.journal.specs.declared.event.Told.TheVariants.{Open}
use Rattle.journal.specs.Events.{NotClosed, StandsAt}
use Rattle.turnstile.specs.Events.{StartsWith}
use Rattle.shelf.specs.Ends.{ReaderView}
use Rattle.dice_engine.specs.Turns.{newest_in}
use Rattle.dice_engine.specs.Conditions.{HasAsk}
use Rattle.dice_engine.specs.Rows.{BeginsWithRows}
use Rattle.dice_engine.specs.declared.promise.Promise.{Promise}
use Rattle.action_digest.specs.declared.buck.Buck.{Buck}
use Rattle.action_digest.specs.declared.run.Run.{Run}
use Rattle.action_digest.specs.declared.key.Key.{Key}
use Rattle.action_digest.specs.declared.value.Value.{Value}
use Rattle.action_digest.specs.Buck.{buck}
use Rattle.script_trace.specs.Events.{Events, IsDecidedIn}
use Rattle.dice_run.specs.Seats.{Place}
use Rattle.dice_run.specs.declared.outlook.Outlook.{Outlook}
use Rattle.lists.specs.Lists.{Has}

abbrev pub Pledge : Type 0
Pledge = Promise Buck Key Value Run

-- the reader was told of a beginning of what the seat has seen, in which so many versions or more were committed
pub record SeesWith (s : Place) (told : ℕ) (r : ReaderView Key Value) : Type 0 where
  pub journal : Events
  pub begins : StartsWith s.seen journal
  pub newest : told ≤ newest_in journal
  pub rows : BeginsWithRows journal r.seen

-- so it is with the driver's reader, if it has one with a place
abbrev pub Sees : Place → Outlook → Type 0
Sees s o = ForSome o.reader (λ r. r.shut ≡ false → SeesWith s o.told r)

-- the promise's ask was not left, and its transaction not closed
pub record IsLive (s : Place) (x : Pledge) : Type 0 where
  pub asks : HasAsk s x.ask x.opened x.version (arc_value x.key)
  pub open_ : NotClosed x.opened s.mine

abbrev pub AreLive : Place → List Pledge → Type 0
AreLive s xs = (x : Pledge) → Has xs x → IsLive s x

-- at some time (v, k) was decided, and the transaction of this index was open at v
pub record WasDecided (J : Events) (transaction v : ℕ) (k : Key) : Type 0 where
  pub earlier : Events
  pub begins : StartsWith J earlier
  pub opening : StandsAt earlier transaction (Open 0 v)
  pub open_ : NotClosed transaction earlier
  pub decided : IsDecidedIn earlier v k

-- so it is with the keys of these promises, if they are computed
abbrev pub WereDecided : Events → List Pledge → Type 0
WereDecided J xs = (x : Pledge) → Has xs x → buck.kind (arc_value x.key) ≢ Injected → WasDecided J x.opened x.version (arc_value x.key)
