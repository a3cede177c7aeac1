-- What the lines so far did.
use Rattle.std.specs.Prelude.{ℕ, Bool, true, false, if◌then◌else◌, List, [], ◌∷◌, Option, Some, None}
use Rattle.std.specs.Option.{option_map}
use Rattle.std.specs.Str.{bytes_eq}
use Rattle.script.specs.declared.fate.Fate.{Fate}
use Rattle.script.specs.declared.fate.Fate.TheVariants.{Pending, Answered, Cancelled}
use Rattle.script.specs.declared.requests.Asked.{Asked}
use Rattle.script.specs.declared.line.Line.{Line}
use Rattle.script.specs.declared.line.Line.TheVariants.{Put, Drop, Commit, Open, Ask, Action, Wait, Cancel, Close}

-- a set of texts, as the test for them
abbrev pub Texts : Type 0
Texts = List ℕ → Bool

abbrev pub no_texts : Texts
no_texts = λ q. false

abbrev pub adding : List ℕ → Texts → Texts
adding text set = λ q. if bytes_eq text q then true else set q

-- what has a name, as the look-up of names
abbrev pub Table : Type 0 → Type 0
Table X = List ℕ → Option X

abbrev pub no_entries : {X : Type 0} → Table X
no_entries = λ q. None

abbrev pub with_entry : {X : Type 0} → List ℕ → X → Table X → Table X
with_entry name x table = λ q. if bytes_eq name q then Some x else table q

-- a request that is made, and one that was waited for or given up
abbrev pub made_in : List ℕ → Asked
made_in t = record { transaction = t; fate = Pending }

abbrev pub come_to : Fate → Option Asked → Option Asked
come_to f None = None
come_to f (Some a) = Some (record { transaction = a.transaction; fate = f })

abbrev pub settling : List ℕ → Fate → Table Asked → Table Asked
settling name f asked = λ q. if bytes_eq name q then come_to f (asked q) else asked q

-- when its transaction is closed a request is given up, unless it was waited for
abbrev pub given_up : Fate → Fate
given_up Pending = Cancelled
given_up Answered = Answered
given_up Cancelled = Cancelled

-- a request when the transaction t is closed
abbrev pub left_by : List ℕ → Option Asked → Option Asked
left_by t None = None
left_by t (Some a) = Some (record { transaction = a.transaction; fate = if bytes_eq t a.transaction then given_up a.fate else a.fate })

abbrev pub closing : List ℕ → Table Asked → Table Asked
closing t asked = λ q. left_by t (asked q)

-- the paths put or dropped since the last commit; the transactions, with whether they are open
-- still; the requests
pub record Past : Type 0 where
  pub touched : Texts
  pub opened : Table Bool
  pub asked : Table Asked

abbrev pub nothing : Past
nothing = record { touched = no_texts; opened = no_entries; asked = no_entries }

-- one line more
abbrev pub after : Past → Line → Past
after p (Put path bytes) = record p { touched = adding path p.touched }
after p (Drop path) = record p { touched = adding path p.touched }
after p Commit = record p { touched = no_texts }
after p (Open t) = record p { opened = with_entry t true p.opened }
after p (Ask r) = record p { asked = with_entry r.name (made_in r.transaction) p.asked }
after p (Action r) = record p { asked = with_entry r.name (made_in r.transaction) p.asked }
after p (Wait name) = record p { asked = settling name Answered p.asked }
after p (Cancel name) = record p { asked = settling name Cancelled p.asked }
after p (Close t) = record { touched = p.touched; opened = with_entry t false p.opened; asked = closing t p.asked }

abbrev pub after_all : Past → List Line → Past
after_all p [] = p
after_all p (l ∷ ls) = after_all (after p l) ls

-- what has become of a request; nothing if none has the name
abbrev pub fate_of : Past → List ℕ → Option Fate
fate_of p name = option_map (λ a. a.fate) (p.asked name)

abbrev pub is_given_up : Option Fate → Bool
is_given_up (Some Cancelled) = true
is_given_up (Some Pending) = false
is_given_up (Some Answered) = false
is_given_up None = false

-- whether these lines cancel the request of this name: by `cancel`, or by `close` before a `wait`
abbrev pub is_cancelled : List Line → List ℕ → Bool
is_cancelled ls name = is_given_up (fate_of (after_all nothing ls) name)
