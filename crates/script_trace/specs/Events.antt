-- What the lines of a script have the journal say. All events that tell a number tell 0, that of
-- the driver's seat.
use Rattle.std.specs.Prelude.{◌≡◌, ℕ, Bool, true, false, List, [], ◌∷◌, ◌++◌, length, take, reverse, filter, Option, Some, None}
use Rattle.journal.specs.declared.event.Told.{Told}
use Rattle.journal.specs.declared.event.Told.TheVariants as told
use Rattle.journal.specs.Events.{Decision, decided, event_of, StandsAt}
use Rattle.journal.specs.Law.{IsLawfulJournal}
use Rattle.journal.specs.Tell.{event_by}
use Rattle.turnstile.specs.Events.{events_by, AllBelow}
use Rattle.script.specs.declared.line.Line.{Line}
use Rattle.script.specs.declared.line.Line.TheVariants.{Put, Drop, Commit, Open, Ask, Action, Wait, Cancel, Close}
use Rattle.script.specs.declared.line.Request.{Request}
use Rattle.script.specs.Past.{Table, no_entries, with_entry, nothing, after_all, is_cancelled}
use Rattle.script.specs.Plan.{Ends, Plan, Planned, Digest, Text, no_plan, planned, plan_of, differs}
use Rattle.action_digest.specs.declared.key.Key.{Key}
use Rattle.action_digest.specs.declared.value.Value.{Value}
use Rattle.action_digest.specs.Buck.{buck}
use Rattle.action_digest.specs.Same.{key_equal}
use Rattle.script_trace.specs.Output.{pairs_of_changes, key_of}
use Rattle.lists.specs.Lists.{Has}

abbrev pub Events : Type 0
Events = List (Told Key Value)

-- the indices of the events that opened transactions, and that asked for requests, by their names
pub record Indices : Type 0 where
  pub opened : Table ℕ
  pub asked : Table ℕ

abbrev pub no_indices : Indices
no_indices = record { opened = no_entries; asked = no_entries }

-- in the journal J this event stands at i, after these own events of the seat and no others
pub record IsNext (J own : Events) (e : Told Key Value) (i : ℕ) : Type 0 where
  pub stands : StandsAt J i e
  pub before : events_by event_by 0 (take i J) ≡ own

-- the event of a commit: the changes that differ, if there are any
abbrev pub commit_events : Plan → Events
commit_events p = event_of 0 (pairs_of_changes (filter (differs p.log) p.gathered))

-- what a request for a key adds
pub record AddsAsk (J own : Events) (n : Indices) (r : Request) (k : Key) (es : Events) (m : Indices) : Type 0 where
  pub transaction : ℕ
  pub opened : n.opened r.transaction ≡ Some transaction
  pub index : ℕ
  pub next : IsNext J own (told.Ask 0 transaction k) index
  pub adds : es ≡ told.Ask 0 transaction k ∷ []
  pub indices : m ≡ record n { asked = with_entry r.name index n.asked }

-- what opening a transaction at this version adds
pub record AddsOpen (J own : Events) (n : Indices) (t : List ℕ) (version : ℕ) (es : Events) (m : Indices) : Type 0 where
  pub index : ℕ
  pub next : IsNext J own (told.Open 0 version) index
  pub adds : es ≡ told.Open 0 version ∷ []
  pub indices : m ≡ record n { opened = with_entry t index n.opened }

-- giving a request up
pub record AddsLeave (n : Indices) (q : List ℕ) (es : Events) : Type 0 where
  pub ask : ℕ
  pub asked : n.asked q ≡ Some ask
  pub adds : es ≡ told.Leave 0 ask ∷ []

-- closing a transaction
pub record AddsClose (n : Indices) (t : List ℕ) (es : Events) : Type 0 where
  pub transaction : ℕ
  pub opened : n.opened t ≡ Some transaction
  pub adds : es ≡ told.Close 0 transaction ∷ []

-- in the journal J a line adds these own events to those before it, if the lines before it made
-- this plan; and the indices after it
abbrev pub AddsLine : Events → Plan → Events → Indices → Line → Events → Indices → Type 0
AddsLine J p own n (Put path bytes) es m = (es ≡ []) × (m ≡ n)
AddsLine J p own n (Drop path) es m = (es ≡ []) × (m ≡ n)
AddsLine J p own n Commit es m = (es ≡ commit_events p) × (m ≡ n)
AddsLine J p own n (Open t) es m = AddsOpen J own n t (length p.log) es m
AddsLine J p own n (Ask r) es m = AddsAsk J own n r (key_of (Digest r.label)) es m
AddsLine J p own n (Action r) es m = AddsAsk J own n r (key_of (Text r.label)) es m
AddsLine J p own n (Wait q) es m = (es ≡ []) × (m ≡ n)
AddsLine J p own n (Cancel q) es m = AddsLeave n q es × (m ≡ n)
AddsLine J p own n (Close t) es m = AddsClose n t es × (m ≡ n)

-- and all of these lines, from some own events and indices to others
abbrev pub AddsLines : Events → Ends → Plan → Events → Indices → List Line → Events → Indices → Type 0
AddsLines J ends p own n [] all m = (all ≡ own) × (m ≡ n)
AddsLines J ends p own n (l ∷ ls) all m =
    (es : Events) × (i : Indices) × AddsLine J p own n l es i × AddsLines J ends (planned ends p l) (own ++ es) i ls all m

-- a transaction that is open at the script's end is closed
abbrev pub AddsEnd : Indices → List ℕ → Option Bool → Events → Type 0
AddsEnd n t (Some true) es = AddsClose n t es
AddsEnd n t (Some false) es = es ≡ []
AddsEnd n t None es = es ≡ []

-- and all of them, in the order of opening
abbrev pub AddsEnds : Indices → Table Bool → List Line → Events → Type 0
AddsEnds n opened [] es = es ≡ []
AddsEnds n opened (Open t ∷ ls) es = (first : Events) × (rest : Events) × AddsEnd n t (opened t) first × AddsEnds n (with_entry t false opened) ls rest × (es ≡ first ++ rest)
AddsEnds n opened (Put path bytes ∷ ls) es = AddsEnds n opened ls es
AddsEnds n opened (Drop path ∷ ls) es = AddsEnds n opened ls es
AddsEnds n opened (Commit ∷ ls) es = AddsEnds n opened ls es
AddsEnds n opened (Ask r ∷ ls) es = AddsEnds n opened ls es
AddsEnds n opened (Action r ∷ ls) es = AddsEnds n opened ls es
AddsEnds n opened (Wait q ∷ ls) es = AddsEnds n opened ls es
AddsEnds n opened (Cancel q ∷ ls) es = AddsEnds n opened ls es
AddsEnds n opened (Close t ∷ ls) es = AddsEnds n opened ls es

-- in a journal (v, k) is decided
abbrev pub IsDecidedIn : Events → ℕ → Key → Type 0
IsDecidedIn J v k = (d : Decision) × (decided key_equal (reverse J) v k ≡ Some d)

-- in the journal J the transaction of this index is closed, and before that (v, k) was decided
pub record IsDecidedAtClose (J : Events) (transaction v : ℕ) (k : Key) : Type 0 where
  pub before : Events
  pub later : Events
  pub closes : J ≡ before ++ told.Close 0 transaction ∷ later
  pub decided : IsDecidedIn before v k

-- a request that is not cancelled is decided at its version when its transaction closes
pub record IsDecided (J : Events) (n : Indices) (r : Planned) : Type 0 where
  pub transaction : ℕ
  pub opened : n.opened r.transaction ≡ Some transaction
  pub decided : IsDecidedAtClose J transaction r.version (key_of r.wish)

-- J is a journal of these lines: it is lawful; its events that tell a number are those of the
-- lines, in order, and of the end; and each request that is not cancelled is decided
pub record IsJournalOf (ls : List Line) (J : Events) : Type 0 where
  pub lawful : IsLawfulJournal key_equal buck J
  pub below : AllBelow event_by 1 J
  pub own : Events
  pub indices : Indices
  pub lines : AddsLines J (is_cancelled ls) no_plan [] no_indices ls own indices
  pub closing : Events
  pub ends : AddsEnds indices (after_all nothing ls).opened ls closing
  pub events : events_by event_by 0 J ≡ own ++ closing
  pub decisions : (r : Planned) → Has (plan_of ls).requests r → r.cancelled ≡ false → IsDecided J indices r
