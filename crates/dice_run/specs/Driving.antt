-- Where the driver of a script stands.
use Rattle.std.specs.Prelude.{◌≡◌, ◌≢◌, ◌≤◌, ◌<◌, ◌⊎◌, ℕ, true, false, nat_eq, if◌then◌else◌, List, [], ◌∷◌, ◌++◌, map, length, Option, Some, None}
use Rattle.std.specs.Map.{lookup}
use Rattle.std.specs.Arc.{arc_value}
use Rattle.std.specs.Str.{bytes_eq}
use Rattle.std.specs.HashMap.{get}
use Rattle.std.specs.Cmp.Lexicographic.{pointwise}
use Rattle.std.specs.Option.{option_map}
use Rattle.dice_engine.specs.Seats.{EngineId}
use Rattle.dice_key.specs.declared.universe.Kind.TheVariants.{Injected}
use Rattle.journal.specs.declared.event.Told.TheVariants.{Close, Leave}
use Rattle.journal.specs.Events.{NotClosed}
use Rattle.dice_engine.specs.Conditions.{HasOpen, HasAsk}
use Rattle.dice_engine.specs.declared.promise.Transaction.{Transaction}
use Rattle.script.specs.declared.line.Line.{Line}
use Rattle.script.specs.declared.line.Line.TheVariants as line
use Rattle.script.specs.declared.line.Request.{Request}
use Rattle.script.specs.declared.fate.Fate.{Fate}
use Rattle.script.specs.declared.fate.Fate.TheVariants as fate
use Rattle.script.specs.declared.requests.Asked.{Asked}
use Rattle.script.specs.Past.{Past, after}
use Rattle.script.specs.Order.{Fits}
use Rattle.script.specs.Plan.{Ends, Plan, Planned, Change, version_of, planned, committed}
use Rattle.action_digest.specs.declared.key.Key.{Key}
use Rattle.action_digest.specs.Buck.{buck}
use Rattle.script_trace.specs.Output.{log_of, pairs_of_changes, key_of}
use Rattle.dice_run.specs.Answers.{IsToldOf}
use Rattle.script_trace.specs.Events.{IsDecidedIn}
use Rattle.dice_run.specs.Seats.{Place, log_in, IsOurs, Goes, Opens, Asks}
use Rattle.dice_run.specs.Looking.{Pledge, Sees, IsLive, AreLive, WereDecided}
use Rattle.dice_run.specs.declared.driver.Driver.{Driver}
use Rattle.lists.specs.Lists.{AreDistinct, Has}

abbrev pub paths_of : List Change → List (List ℕ)
paths_of cs = map (λ c. c.path) cs

-- the open transaction, the request that is still to be answered, and the answer, of a name
abbrev pub transaction_of : Driver → List ℕ → Option Transaction
transaction_of d t = get (pointwise nat_eq) d.transactions t

abbrev pub pledge_of : Driver → List ℕ → Option Pledge
pledge_of d q = get (pointwise nat_eq) d.promises q

abbrev pub answer_of : Driver → List ℕ → Option (List ℕ)
answer_of d q = option_map (λ v. v.items) (get (pointwise nat_eq) d.answers q)

-- ---- requests

-- the request is still to be answered: its ask was not left, and is in an open transaction
pub record IsPending (d : Driver) (r : Planned) : Type 0 where
  pub pledge : Pledge
  pub held : pledge_of d r.name ≡ Some pledge
  pub asks : HasAsk d.seat pledge.ask pledge.opened pledge.version (arc_value pledge.key)
  pub key : arc_value pledge.key ≡ key_of r.wish
  pub version : pledge.version ≡ r.version
  pub transaction : Transaction
  pub within : transaction_of d r.transaction ≡ Some transaction
  pub same : transaction.opened ≡ pledge.opened

-- the request was answered
pub record IsTold (d : Driver) (r : Planned) : Type 0 where
  pub text : List ℕ
  pub held : answer_of d r.name ≡ Some text
  pub told : IsToldOf (log_in d.seat) r.version (key_of r.wish) text

-- by what has become of a request in the script
abbrev pub IsAt : Driver → Planned → Fate → Type 0
IsAt d r fate.Pending = IsPending d r
IsAt d r fate.Answered = (pledge_of d r.name ≡ None) × IsTold d r
IsAt d r fate.Cancelled = Unit {0}

pub record IsMade (d : Driver) (past : Past) (r : Planned) : Type 0 where
  pub asked : Asked
  pub made : past.asked r.name ≡ Some asked
  pub transaction : asked.transaction ≡ r.transaction
  pub within : r.version ≤ length (log_in d.seat)
  pub at : IsAt d r asked.fate

-- ---- the driver

-- What was looked at: the driver sees what the seat has seen; and the promises that a look answered and that were not polled
-- since are live, and none of them is of a request that is still to be answered.
pub record Looks (d : Driver) : Type 0 where
  pub sees : Sees d.seat d.outlook
  pub live : AreLive d.seat d.outlook.unpolled.items
  pub apart : (x : Pledge) (q : List ℕ) (y : Pledge) → Has d.outlook.unpolled.items x → pledge_of d q ≡ Some y → x.ask ≡ y.ask → ⊥

-- the driver has the log, the gathered changes and the requests of this plan; those of its transactions that are not closed are
-- open, and each has an index of its own; and so has each ask
pub record Matches (id : EngineId) (d : Driver) (p : Plan) (past : Past) : Type 0 where
  pub ours : IsOurs id d.seat
  pub log : log_in d.seat ≡ log_of p.log
  pub gathered : d.gathered ≡ pairs_of_changes p.gathered
  pub within : (t : List ℕ) → version_of t p.opened ≤ length p.log
  pub known : (t : List ℕ) → past.opened t ≡ Some true → (x : Transaction) × (transaction_of d t ≡ Some x)
  pub open_ : (t : List ℕ) (x : Transaction) → transaction_of d t ≡ Some x → HasOpen d.seat x.opened x.version × (lookup (bytes_eq t) p.opened ≡ Some x.version) × (past.opened t ≡ Some true)
  pub apart : (t u : List ℕ) (x y : Transaction) → transaction_of d t ≡ Some x → transaction_of d u ≡ Some y → x.opened ≡ y.opened → t ≡ u
  pub pledged : (q : List ℕ) (x : Pledge) → pledge_of d q ≡ Some x → x.ask < length d.seat.seen
  pub asks_apart : (q r : List ℕ) (x y : Pledge) → pledge_of d q ≡ Some x → pledge_of d r ≡ Some y → x.ask ≡ y.ask → q ≡ r
  pub requests : (r : Planned) → Has p.requests r → IsMade d past r
  pub found : (q : List ℕ) (a : Asked) → past.asked q ≡ Some a → (r : Planned) × Has p.requests r × (r.name ≡ q)
  pub distinct : AreDistinct (paths_of p.gathered)
  pub touched : (q : List ℕ) → past.touched q ≡ false → Has (paths_of p.gathered) q → ⊥
  pub looks : Looks d

-- the driver stands for a plan, and the line fits what came before it
pub record IsReady (id : EngineId) (d : Driver) (l : Line) : Type 0 where
  pub plan : Plan
  pub past : Past
  pub stands : Matches id d plan past
  pub fits : Fits past l

-- the newest version that a line prints, after the lines before it
abbrev pub newest_of : Plan → Line → List ℕ
newest_of p line.Commit = length (committed p.log p.gathered) ∷ []
newest_of p (line.Put path bytes) = []
newest_of p (line.Drop path) = []
newest_of p (line.Open t) = []
newest_of p (line.Ask r) = []
newest_of p (line.Action r) = []
newest_of p (line.Wait name) = []
newest_of p (line.Cancel name) = []
newest_of p (line.Close t) = []

-- and all of these lines
abbrev pub newest_from : Ends → Plan → List Line → List ℕ
newest_from ends p [] = []
newest_from ends p (l ∷ ls) = newest_of p l ++ newest_from ends (planned ends p l) ls

-- one line more was carried out
pub record Steps (id : EngineId) (ends : Ends) (p : Plan) (past : Past) (l : Line) (d e : Driver) : Type 0 where
  pub stands : Matches id e (planned ends p l) (after past l)
  pub newest : e.newest.items ≡ d.newest.items ++ newest_of p l

-- ---- what lines do

-- all that has a name is as before
pub record KeepsNames (d e : Driver) : Type 0 where
  pub transactions : e.transactions ≡ d.transactions
  pub promises : e.promises ≡ d.promises
  pub answers : e.answers ≡ d.answers
  pub outlook : e.outlook ≡ d.outlook

-- the transaction of this name is open
pub record HasTransaction (d : Driver) (t : List ℕ) : Type 0 where
  pub transaction : Transaction
  pub held : transaction_of d t ≡ Some transaction
  pub has : HasOpen d.seat transaction.opened transaction.version

-- if a transaction has this name, it is open
abbrev pub HasIfHeld : Driver → List ℕ → Type 0
HasIfHeld d t = (x : Transaction) → transaction_of d t ≡ Some x → HasOpen d.seat x.opened x.version

-- a request of this name that is still to be answered is live
abbrev pub MayWait : Driver → List ℕ → Type 0
MayWait d q = (x : Pledge) → pledge_of d q ≡ Some x → IsLive d.seat x

-- the request of this name is still to be answered, and live
abbrev pub MayCancel : Driver → List ℕ → Type 0
MayCancel d q = (x : Pledge) × (pledge_of d q ≡ Some x) × HasAsk d.seat x.ask x.opened x.version (arc_value x.key) × NotClosed x.opened d.seat.mine

abbrev pub MayClose : Driver → List ℕ → Type 0
MayClose d t = HasTransaction d t

-- what has a name, and with one name more, or without it
abbrev pub with_named : {X : Type 0} → List ℕ → Option X → (List ℕ → Option X) → List ℕ → Option X
with_named t x f q = if pointwise nat_eq t q then x else f q

pub record DidOpen (id : EngineId) (t : List ℕ) (d e : Driver) : Type 0 where
  pub transaction : Transaction
  pub opens : Opens id d.seat e.seat transaction.opened transaction.version
  pub sees : Sees e.seat e.outlook
  pub unpolled : e.outlook.unpolled ≡ d.outlook.unpolled
  pub transactions : (q : List ℕ) → transaction_of e q ≡ with_named t (Some transaction) (transaction_of d) q
  pub promises : e.promises ≡ d.promises
  pub answers : e.answers ≡ d.answers
  pub gathered : e.gathered ≡ d.gathered
  pub newest : e.newest ≡ d.newest

pub record DidAsk (id : EngineId) (r : Request) (k : Key) (d e : Driver) : Type 0 where
  pub transaction : Transaction
  pub held : transaction_of d r.transaction ≡ Some transaction
  pub pledge : Pledge
  pub asks : Asks id d.seat e.seat pledge.ask pledge.opened pledge.version (arc_value pledge.key)
  pub opened : pledge.opened ≡ transaction.opened
  pub version : pledge.version ≡ transaction.version
  pub key : arc_value pledge.key ≡ k
  pub outlook : e.outlook ≡ d.outlook
  pub promises : (q : List ℕ) → pledge_of e q ≡ with_named r.name (Some pledge) (pledge_of d) q
  pub transactions : e.transactions ≡ d.transactions
  pub answers : e.answers ≡ d.answers
  pub gathered : e.gathered ≡ d.gathered
  pub newest : e.newest ≡ d.newest

-- what the promise x has come to is known: a look told it, and the promise is still to be polled; or its key is decided
abbrev pub IsKnown : Pledge → Driver → Driver → Type 0
IsKnown x d e = (e.outlook.unpolled.items ≡ d.outlook.unpolled.items ++ x ∷ [])
    ⊎ (e.outlook.unpolled.items ≡ d.outlook.unpolled.items) × (buck.kind (arc_value x.key) ≢ Injected → IsDecidedIn e.seat.seen x.version (arc_value x.key))

-- it became known
pub record Comes (id : EngineId) (x : Pledge) (d e : Driver) : Type 0 where
  pub goes : Goes id d.seat e.seat []
  pub known : IsKnown x d e
  pub sees : Sees e.seat e.outlook
  pub promises : e.promises ≡ d.promises
  pub answers : e.answers ≡ d.answers
  pub transactions : e.transactions ≡ d.transactions
  pub gathered : e.gathered ≡ d.gathered
  pub newest : e.newest ≡ d.newest

-- the promises that looks answered were polled, and nothing else was done
pub record Confirms (id : EngineId) (d e : Driver) : Type 0 where
  pub goes : Goes id d.seat e.seat []
  pub decided : WereDecided e.seat.seen d.outlook.unpolled.items
  pub unpolled : e.outlook.unpolled.items ≡ []
  pub sees : (s : Place) → Sees s d.outlook → Sees s e.outlook
  pub promises : e.promises ≡ d.promises
  pub answers : e.answers ≡ d.answers
  pub transactions : e.transactions ≡ d.transactions
  pub gathered : e.gathered ≡ d.gathered
  pub newest : e.newest ≡ d.newest

-- the request was answered before, and nothing is done; or it is answered now
pub data DidWait (id : EngineId) (q : List ℕ) (d e : Driver) : Type 0 where
  was_told : pledge_of d q ≡ None → e ≡ d → DidWait id q d e
  is_told : (x : Pledge) (text : List ℕ) → pledge_of d q ≡ Some x → Goes id d.seat e.seat [] → IsToldOf (log_in d.seat) x.version (arc_value x.key) text
      → IsKnown x d e → Sees e.seat e.outlook
      → ((p : List ℕ) → pledge_of e p ≡ with_named q None (pledge_of d) p) → ((p : List ℕ) → answer_of e p ≡ with_named q (Some text) (answer_of d) p)
      → e.transactions ≡ d.transactions → e.gathered ≡ d.gathered → e.newest ≡ d.newest → DidWait id q d e

pub record DidCancel (id : EngineId) (q : List ℕ) (d e : Driver) : Type 0 where
  pub pledge : Pledge
  pub held : pledge_of d q ≡ Some pledge
  pub goes : Goes id d.seat e.seat (Leave 0 pledge.ask ∷ [])
  pub outlook : e.outlook ≡ d.outlook
  pub promises : (p : List ℕ) → pledge_of e p ≡ with_named q None (pledge_of d) p
  pub transactions : e.transactions ≡ d.transactions
  pub answers : e.answers ≡ d.answers
  pub gathered : e.gathered ≡ d.gathered
  pub newest : e.newest ≡ d.newest

pub record DidClose (id : EngineId) (t : List ℕ) (d e : Driver) : Type 0 where
  pub transaction : Transaction
  pub held : transaction_of d t ≡ Some transaction
  pub goes : Goes id d.seat e.seat (Close 0 transaction.opened ∷ [])
  pub outlook : e.outlook ≡ d.outlook
  pub transactions : (q : List ℕ) → transaction_of e q ≡ with_named t None (transaction_of d) q
  pub promises : e.promises ≡ d.promises
  pub answers : e.answers ≡ d.answers
  pub gathered : e.gathered ≡ d.gathered
  pub newest : e.newest ≡ d.newest

-- nothing was done yet
pub record Starts (id : EngineId) (d : Driver) : Type 0 where
  pub ours : IsOurs id d.seat
  pub mine : d.seat.mine ≡ []
  pub gathered : d.gathered ≡ []
  pub newest : d.newest.items ≡ []
  pub transactions : (t : List ℕ) → transaction_of d t ≡ None
  pub promises : (q : List ℕ) → pledge_of d q ≡ None
  pub sees : Sees d.seat d.outlook
  pub unpolled : d.outlook.unpolled.items ≡ []
