-- A script whose lines were carried out, and whose requests are waited for at its end.
use Rattle.std.specs.Prelude.{◌≡◌, ◌⊎◌, ℕ, false, List, [], ◌∷◌, cond, Some, None}
use Rattle.dice_engine.specs.Seats.{EngineId}
use Rattle.script.specs.declared.line.Line.{Line}
use Rattle.script.specs.declared.line.Line.TheVariants.{Put, Drop, Commit, Open, Ask, Action, Wait, Cancel, Close}
use Rattle.script.specs.declared.fate.Fate.TheVariants as fate
use Rattle.script.specs.Past.{Past, after, nothing, after_all, fate_of, is_cancelled, is_given_up}
use Rattle.script.specs.Plan.{Plan, Planned, no_plan, plan_from, plan_of}
use Rattle.dice_run.specs.Driving.{Matches, DidClose, transaction_of, newest_from}
use Rattle.dice_run.specs.Recording.{Records, RecordsEnds}
use Rattle.dice_run.specs.declared.driver.Driver.{Driver}
use Rattle.lists.specs.Lists.{Has}

-- the lines were carried out
pub record Carried (id : EngineId) (ls : List Line) (d : Driver) : Type 0 where
  pub stands : Matches id d (plan_of ls) (after_all nothing ls)
  pub newest : d.newest.items ≡ newest_from (is_cancelled ls) no_plan ls
  pub records : Records ls [] d (plan_of ls) (after_all nothing ls)

-- and then all requests that the lines do not cancel were waited for
pub record Settled (id : EngineId) (ls : List Line) (d : Driver) : Type 0 where
  pub past : Past
  pub stands : Matches id d (plan_of ls) past
  pub newest : d.newest.items ≡ newest_from (is_cancelled ls) no_plan ls
  pub answered : (r : Planned) → Has (plan_of ls).requests r → r.cancelled ≡ false → fate_of past r.name ≡ Some fate.Answered
  pub records : Records ls [] d (plan_of ls) past
  pub opened : past.opened ≡ (after_all nothing ls).opened

-- and then the transactions that the lines before the rest opened were closed
pub record Closing (id : EngineId) (ls rest : List Line) (d : Driver) : Type 0 where
  pub past : Past
  pub stands : Matches id d (plan_of ls) past
  pub newest : d.newest.items ≡ newest_from (is_cancelled ls) no_plan ls
  pub answered : (r : Planned) → Has (plan_of ls).requests r → r.cancelled ≡ false → fate_of past r.name ≡ Some fate.Answered
  pub records : RecordsEnds ls rest d past
  pub polled : d.outlook.unpolled.items ≡ []

-- a transaction is closed, if it is open
abbrev pub ClosesOpen : EngineId → List ℕ → Driver → Driver → Type 0
ClosesOpen id t d e = (transaction_of d t ≡ None) × (e ≡ d) ⊎ DidClose id t d e

-- while this is done: which requests are given up has not changed
pub record Settling (id : EngineId) (ls : List Line) (d : Driver) (past : Past) : Type 0 where
  pub stands : Matches id d (plan_of ls) past
  pub newest : d.newest.items ≡ newest_from (is_cancelled ls) no_plan ls
  pub given_up : (q : List ℕ) → is_given_up (fate_of past q) ≡ is_cancelled ls q
  pub records : Records ls [] d (plan_of ls) past
  pub opened : past.opened ≡ (after_all nothing ls).opened

-- a request of this name was made, and it may be waited for, unless it is cancelled
pub record MaySettle (id : EngineId) (ls : List Line) (d : Driver) (q : List ℕ) : Type 0 where
  pub past : Past
  pub settling : Settling id ls d past
  pub request : Planned
  pub made : Has (plan_of ls).requests request
  pub named : request.name ≡ q

-- it was waited for, unless it is cancelled
abbrev pub SettlesOne : EngineId → List Line → List ℕ → Driver → Driver → Type 0
SettlesOne id ls q d e = (past : Past) → Settling id ls d past
    → Settling id ls e (cond (is_cancelled ls q) past (after past (Wait q)))

-- a request of this name stands among the lines
abbrev pub AskedIn : List Line → List ℕ → Type 0
AskedIn [] q = ⊥
AskedIn (Ask r ∷ ls) q = (r.name ≡ q) ⊎ AskedIn ls q
AskedIn (Action r ∷ ls) q = (r.name ≡ q) ⊎ AskedIn ls q
AskedIn (Put path bytes ∷ ls) q = AskedIn ls q
AskedIn (Drop path ∷ ls) q = AskedIn ls q
AskedIn (Commit ∷ ls) q = AskedIn ls q
AskedIn (Open t ∷ ls) q = AskedIn ls q
AskedIn (Wait n ∷ ls) q = AskedIn ls q
AskedIn (Cancel n ∷ ls) q = AskedIn ls q
AskedIn (Close t ∷ ls) q = AskedIn ls q

-- the requests that are neither answered nor cancelled stand among the rest of the lines
pub record Waiting (id : EngineId) (ls rest : List Line) (d : Driver) : Type 0 where
  pub past : Past
  pub settling : Settling id ls d past
  pub plan : Plan
  pub whole : plan_of ls ≡ plan_from (is_cancelled ls) plan rest
  pub left : (r : Planned) → Has (plan_of ls).requests r → r.cancelled ≡ false → (fate_of past r.name ≡ Some fate.Answered) ⊎ AskedIn rest r.name
