-- What the driver knows of its journal while it carries out a script.
use Rattle.std.specs.Prelude.{◌≡◌, ◌≢◌, ◌⊎◌, ℕ, Bool, true, false, List, [], ◌∷◌, ◌++◌, Some, None}
use Rattle.journal.specs.declared.event.Told.TheVariants as told
use Rattle.turnstile.specs.Events.{StartsWith}
use Rattle.dice_engine.specs.declared.promise.Transaction.{Transaction}
use Rattle.std.specs.Arc.{arc_value}
use Rattle.script.specs.declared.line.Line.{Line}
use Rattle.script.specs.declared.line.Line.TheVariants.{Put, Drop, Commit, Open, Ask, Action, Wait, Cancel, Close}
use Rattle.script.specs.declared.fate.Fate.TheVariants as fate
use Rattle.script.specs.Past.{Table, Past, nothing, after, after_all, fate_of, is_cancelled}
use Rattle.script.specs.Plan.{Plan, Planned, no_plan, planned, plan_of}
use Rattle.script_trace.specs.Output.{key_of}
use Rattle.script_trace.specs.Events.{Events, Indices, no_indices, AddsLines, AddsEnds}
use Rattle.dice_run.specs.Looking.{Pledge, WasDecided}
use Rattle.dice_run.specs.Driving.{transaction_of, pledge_of}
use Rattle.dice_run.specs.declared.driver.Driver.{Driver}
use Rattle.lists.specs.Lists.{Has}

-- a look answered the request, in the transaction of this index, and it is still to be polled
pub record IsUnpolled (xs : List Pledge) (transaction : ℕ) (r : Planned) : Type 0 where
  pub pledge : Pledge
  pub has : Has xs pledge
  pub opened : pledge.opened ≡ transaction
  pub version : pledge.version ≡ r.version
  pub key : arc_value pledge.key ≡ key_of r.wish

-- the index of the request's transaction is known, and, if the request was answered, its key was decided, or its promise is among
-- those that are still to be polled
pub record IsRecorded (J : Events) (xs : List Pledge) (n : Indices) (past : Past) (r : Planned) : Type 0 where
  pub transaction : ℕ
  pub opened : n.opened r.transaction ≡ Some transaction
  pub known : past.opened r.transaction ≢ None
  pub decided : fate_of past r.name ≡ Some fate.Answered → WasDecided J transaction r.version (key_of r.wish) ⊎ IsUnpolled xs transaction r

-- of what was opened and asked for the indices are known, and a transaction that is closed has its event
pub record KnowsIndices (d : Driver) (p : Plan) (past : Past) (n : Indices) : Type 0 where
  pub opened : (t : List ℕ) (x : Transaction) → transaction_of d t ≡ Some x → n.opened t ≡ Some x.opened
  pub asked : (q : List ℕ) (x : Pledge) → pledge_of d q ≡ Some x → n.asked q ≡ Some x.ask
  pub closed : (t : List ℕ) → past.opened t ≡ Some false → (i : ℕ) × (n.opened t ≡ Some i) × Has d.seat.mine (told.Close 0 i)
  pub requests : (r : Planned) → Has p.requests r → IsRecorded d.seat.seen d.outlook.unpolled.items n past r

-- before the rest of the lines the seat's own events are those of the lines before, in this journal and in each longer one
pub record Records (ls rest : List Line) (d : Driver) (p : Plan) (past : Past) : Type 0 where
  pub indices : Indices
  pub knows : KnowsIndices d p past indices
  pub lines : (J all : Events) (m : Indices) → StartsWith J d.seat.seen → AddsLines J (is_cancelled ls) p d.seat.mine indices rest all m
      → AddsLines J (is_cancelled ls) no_plan [] no_indices ls all m

-- the line is recorded too, whatever lines follow it
abbrev pub RecordsStep : Plan → Past → Line → Driver → Driver → Type 0
RecordsStep p past l d e = (ls rest : List Line) → Records ls (l ∷ rest) d p past → Records ls rest e (planned (is_cancelled ls) p l) (after past l)

-- the transaction is opened in one of the lines
abbrev pub OpenedIn : List Line → List ℕ → Type 0
OpenedIn [] t = ⊥
OpenedIn (Open u ∷ ls) t = (u ≡ t) ⊎ OpenedIn ls t
OpenedIn (Put path bytes ∷ ls) t = OpenedIn ls t
OpenedIn (Drop path ∷ ls) t = OpenedIn ls t
OpenedIn (Commit ∷ ls) t = OpenedIn ls t
OpenedIn (Ask r ∷ ls) t = OpenedIn ls t
OpenedIn (Action r ∷ ls) t = OpenedIn ls t
OpenedIn (Wait q ∷ ls) t = OpenedIn ls t
OpenedIn (Cancel q ∷ ls) t = OpenedIn ls t
OpenedIn (Close u ∷ ls) t = OpenedIn ls t

-- at the end, before the rest of the lines, the transactions that those before it opened were closed
pub record RecordsEnds (ls rest : List Line) (d : Driver) (past : Past) : Type 0 where
  pub indices : Indices
  pub knows : KnowsIndices d (plan_of ls) past indices
  pub own : Events
  pub lines : (J : Events) → StartsWith J d.seat.seen → AddsLines J (is_cancelled ls) no_plan [] no_indices ls own indices
  pub closing : Events
  pub mine : d.seat.mine ≡ own ++ closing
  pub table : Table Bool
  pub open_ : (t : List ℕ) → past.opened t ≡ Some true → table t ≡ Some true
  pub only : (t : List ℕ) → table t ≡ Some true → past.opened t ≡ Some true
  pub ends : (es : Events) → AddsEnds indices table rest es → AddsEnds indices (after_all nothing ls).opened ls (closing ++ es)
  pub left : (t : List ℕ) → past.opened t ≡ Some true → OpenedIn rest t
