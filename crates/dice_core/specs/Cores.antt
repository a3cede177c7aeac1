-- The core as contracts see it, and what holds of it between calls.
use Rattle.std.specs.Prelude.{◌≡◌, ◌<◌, ℕ, Bool, true, cond, ◌&&◌, ◌||◌, ◌++◌, ◌+◌, ◌⊎◌, nat_eq, List, [], reverse, length, Option, Some, None, unwrap_or, is_some}
use Rattle.std.specs.Map.{lookup}
use Rattle.std.specs.Arc.{arc_value}
use Rattle.dice_key.specs.Meaning.{Meaning}
use Rattle.dice_key.specs.declared.universe.Kind.{Kind}
use Rattle.dice_key.specs.declared.universe.Kind.TheVariants.{Injected, Computed, Projection}
use Rattle.task_share.specs.Asked.{By}
use Rattle.task_share.specs.Seen.{Share, task_at, is_live, asks, asked_of}
use Rattle.injected.specs.Seen.{Seen, cell_at}
use Rattle.journal.specs.declared.event.Told.{Told}
use Rattle.journal.specs.declared.event.Told.TheVariants.{Start, Keep, End, Cyclic, Drop, Lost}
use Rattle.std.specs.List.{AllByRecursion, list_any}
use Rattle.journal.specs.Events.{Decision, ByValue, ByCycle, open_count}
use Rattle.version_epoch.specs.Standings.{open_count_of}
use Rattle.versioned_graph.specs.Entries.{Stored}
use Rattle.dice_jobs.specs.Jobs.{Name, Assigned}
use Rattle.core_laws.specs.Tasks.{IsReady, IsOut, WithValue, WithCycle, WithNothing, Standing, Works, Ended}
use Rattle.core_laws.specs.Desk.{World, Rests, AreAll, is_ready, is_out}
use Rattle.dice_core.specs.Commits.{SameSets}
use Rattle.dice_steps.specs.Cells.{CellsStand}
use Rattle.dice_tasks.specs.Entries.{EntriesStand}
use Rattle.dice_tasks.specs.Hands.{DeskSeen, desk_of, KeepsHands, KeepsDeskRoom, AreNamed, tasks_of}
use Rattle.dice_tasks.specs.Helds.{Held, held_of, held_ended}
use Rattle.dice_core.specs.Sessions.{SessionsSeen, owed, IsSame, SessionsStand}
use Rattle.dice_core.specs.declared.polled.Polled.{Polled}
use Rattle.dice_core.specs.declared.polled.Polled.TheVariants as polled
use Rattle.lists.specs.Lists.{AreDistinct, Has}

-- what a core is seen as: the journal and the tasks at hand; the tables of tasks by their versions; the graph's entries; the cells; what is open
pub record CoreSeen (K V : Type 0) : Type 0 where
  pub desk : DeskSeen K V
  pub tables : List (ℕ × List (K × Share K (Held K V)))
  pub entries : List (K × Stored K V)
  pub cells : Seen K V
  pub sessions : SessionsSeen K

-- what a key has come to at a version: its value; a cycle that it reaches; nothing, since memory was refused; not yet anything; or nobody asked
pub data Came (K V : Type 0) : Type 0 where
  ToValue : V → Came K V
  ToCycle : List K → Came K V
  ToNothing : Came K V
  Pending : Came K V
  Absent : Came K V

module _ {K V : Type 0} where
  -- an answer of a poll without pointers
  abbrev pub came_of : {U R : Type 0} → Polled U K V R → Came K V
  came_of (polled.Value x) = ToValue (arc_value x.now)
  came_of (polled.Cycle p) = ToCycle (arc_value p.now)
  came_of polled.Lost = ToNothing
  came_of polled.Pending = Pending
  came_of polled.Absent = Absent

  -- the events in their order
  abbrev pub events_of : CoreSeen K V → List (Told K V)
  events_of c = c.desk.events

  -- the events, the newest first
  abbrev pub past_of : CoreSeen K V → List (Told K V)
  past_of c = reverse c.desk.events

  -- the table of a version; no tasks, if there is none
  abbrev pub table_at : List (ℕ × List (K × Share K (Held K V))) → ℕ → List (K × Share K (Held K V))
  table_at ts v = unwrap_or (lookup (nat_eq v) ts) []

  -- there is a table for the version
  abbrev pub has_table : List (ℕ × List (K × Share K (Held K V))) → ℕ → Bool
  has_table ts v = is_some (lookup (nat_eq v) ts)

  -- a task's standing says what its key has come to
  abbrev pub comes_to : Standing K V → Came K V
  comes_to (Works w p A) = Pending
  comes_to (Ended (WithValue x)) = ToValue x
  comes_to (Ended (WithCycle p)) = ToCycle p
  comes_to (Ended WithNothing) = ToNothing

  abbrev pub held_to : Option (Held K V) → Came K V
  held_to None = Absent
  held_to (Some h) = comes_to h.standing

  -- how the journal has decided a key that has come to this
  abbrev pub decision_of : Came K V → Option Decision
  decision_of (ToValue x) = Some ByValue
  decision_of (ToCycle p) = Some ByCycle
  decision_of ToNothing = None
  decision_of Pending = None
  decision_of Absent = None

  -- an injected key has its value if a transaction is open at the version
  abbrev pub injected_to : Kind → ℕ → V → Came K V → Came K V
  injected_to Injected n x o = cond (nat_eq n 0) o (ToValue x)
  injected_to Computed n x o = o
  injected_to Projection n x o = o

module _ {K V : Type 0} (eq : K → K → Bool) where
  -- the task of a key at a version
  abbrev pub held_in : CoreSeen K V → ℕ → K → Option (Held K V)
  held_in c v k = task_at eq (table_at c.tables v) k

  -- the asks and the tasks of all versions
  abbrev pub world_of : List (ℕ × List (K × Share K (Held K V))) → World K V
  world_of ts = record { asked = λ v. asked_of eq (table_at ts v); tasks = λ v. tasks_of eq (table_at ts v) }

  -- the task of a key at a version is ready; its job is out
  abbrev pub ready_at : CoreSeen K V → ℕ × K → Bool
  ready_at c p = is_ready (tasks_of eq (table_at c.tables p.0) p.1)

  abbrev pub out_at : CoreSeen K V → ℕ × K → Bool
  out_at c p = is_out (tasks_of eq (table_at c.tables p.0) p.1)

  -- a job of this name is out
  abbrev pub IsNameOut : CoreSeen K V → Name K → Type 0
  IsNameOut c n = (a : Assigned K V) × (held_in c n.version n.key ≡ Some (held_of a IsOut)) × (a.name ≡ n)

  -- what a poll of a key at a version answers
  abbrev pub poll_of : Meaning K V → CoreSeen K V → ℕ → K → Came K V
  poll_of m c v k = injected_to (m.kind k) (open_count_of c.sessions.epochs v) (cell_at eq m c.cells v k) (held_to (held_in c v k))

  -- all that a caller sees is as before; there may be more room
  pub record IsAsBefore (c d : CoreSeen K V) : Type 0 where
    pub hands : KeepsHands c.desk d.desk
    pub room : KeepsDeskRoom c.desk d.desk
    pub tasks : (v : ℕ) (q : K) → held_in d v q ≡ held_in c v q
    pub live : (v : ℕ) (q : K) → is_live eq (table_at d.tables v) q ≡ is_live eq (table_at c.tables v) q
    pub asks : (v : ℕ) (q : K) (a : By K) → asks eq (table_at d.tables v) q a ≡ asks eq (table_at c.tables v) q a
    pub tabled : (v : ℕ) → has_table c.tables v ≡ true → has_table d.tables v ≡ true
    pub entries : d.entries ≡ c.entries
    pub cells : SameSets eq c.cells d.cells
    pub newest : d.cells.last ≡ c.cells.last
    pub sessions : IsSame c.sessions d.sessions

module _ {K V : Type 0} (eq : K → K → Bool) (m : Meaning K V) where
  -- between calls all versions are at rest and the journal is lawful; the ready and the out tasks are known, and each task has the name of its
  -- place; entries are true and come from decisions; cells and what is open are the journal's; and each version with an open transaction has a table
  pub record CoreStands (c : CoreSeen K V) : Type 0 where
    pub rests : Rests eq m (past_of c) (world_of eq c.tables) (desk_of c.desk) (owed c.sessions)
    pub outs : AreAll (λ (p : ℕ × K). is_out ((world_of eq c.tables).tasks p.0 p.1)) c.desk.out
    pub named : (v : ℕ) → AreNamed eq v (table_at c.tables v)
    pub told : c.desk.ended ≡ []
    pub entries : EntriesStand eq m (past_of c) c.entries
    pub cells : CellsStand eq (past_of c) c.cells
    pub sessions : SessionsStand (past_of c) c.sessions
    pub tabled : (v : ℕ) → 0 < open_count (past_of c) v → has_table c.tables v ≡ true

module _ {K V : Type 0} where
  -- the table of v is qs now; all others are as they were
  abbrev pub PutsTable : ℕ → List (K × Share K (Held K V)) → List (ℕ × List (K × Share K (Held K V))) → List (ℕ × List (K × Share K (Held K V))) → Type 0
  PutsTable v qs ts us = (u : ℕ) → lookup (nat_eq u) us ≡ cond (nat_eq v u) (Some qs) (lookup (nat_eq u) ts)

  -- a core with these parts
  abbrev pub core_of : DeskSeen K V → List (ℕ × List (K × Share K (Held K V))) → List (K × Stored K V) → Seen K V → SessionsSeen K → CoreSeen K V
  core_of d ts es s x = record { desk = d; tables = ts; entries = es; cells = s; sessions = x }

module _ {K V : Type 0} (eq : K → K → Bool) (m : Meaning K V) where
  -- the tasks of v were in hand, and all else is as it was
  pub record Turned (v : ℕ) (ts us : List (ℕ × List (K × Share K (Held K V)))) (R : List (K × Share K (Held K V)) → List (K × Share K (Held K V)) → Type 0) : Type 0 where
    pub tasks : List (K × Share K (Held K V))
    pub put : PutsTable v tasks ts us
    pub turned : R (table_at ts v) tasks

  -- a core may have these parts
  abbrev pub MayStand : DeskSeen K V → List (ℕ × List (K × Share K (Held K V))) → Type 0
  MayStand d ts = (es : List (K × Stored K V)) × (s : Seen K V) × (x : SessionsSeen K) × CoreStands eq m (core_of d ts es s x)

  -- a core with these parts stays one with those, whatever else it has
  abbrev pub StandsOn : DeskSeen K V → List (ℕ × List (K × Share K (Held K V))) → DeskSeen K V → List (ℕ × List (K × Share K (Held K V))) → Type 0
  StandsOn d ts e us = (es : List (K × Stored K V)) (s : Seen K V) (x : SessionsSeen K) → CoreStands eq m (core_of d ts es s x) → CoreStands eq m (core_of e us es s x)

module _ {K V : Type 0} where
  -- the event is one of a task at v
  abbrev pub IsWorkAt : ℕ → Told K V → Type 0
  IsWorkAt v (Start w k c) = w ≡ v
  IsWorkAt v (Keep w k b) = w ≡ v
  IsWorkAt v (End w k) = w ≡ v
  IsWorkAt v (Cyclic w k) = w ≡ v
  IsWorkAt v (Drop w k) = w ≡ v
  IsWorkAt v (Lost w k) = w ≡ v
  IsWorkAt v _ = ⊥

  -- all events that were added are of tasks at v
  abbrev pub WorksOn : ℕ → List (Told K V) → List (Told K V) → Type 0
  WorksOn v J I = (es : List (Told K V)) × (I ≡ J ++ es) × AllByRecursion (IsWorkAt v) es

module _ {K V : Type 0} (eq : K → K → Bool) where
  -- the tasks of all versions, and who asks for them, are as before
  pub record KeepsTasksOf (c d : CoreSeen K V) : Type 0 where
    pub tasks : (v : ℕ) (q : K) → held_in eq d v q ≡ held_in eq c v q
    pub asks : (v : ℕ) (q : K) (a : By K) → asks eq (table_at d.tables v) q a ≡ asks eq (table_at c.tables v) q a
    pub ready : d.desk.ready ≡ c.desk.ready
    pub out : d.desk.out ≡ c.desk.out

  -- these tasks of v, each named once, are gone, which were at work, and if it says so all tasks of v are; all other tasks, of all versions, are as before
  pub record DropsThese (v : ℕ) (all : Bool) (ks : List K) (ts us : List (ℕ × List (K × Share K (Held K V)))) : Type 0 where
    pub distinct : AreDistinct ks
    pub at_work : (q : K) → Has ks q → is_live eq (table_at ts v) q ≡ true
    pub tasks : (u : ℕ) (q : K) → task_at eq (table_at us u) q ≡ cond (nat_eq v u && (all || list_any (eq q) ks)) None (task_at eq (table_at ts u) q)

  -- this job is that of a task that is out
  abbrev pub IsJobOut : CoreSeen K V → Assigned K V → Type 0
  IsJobOut c j = held_in eq c j.name.version j.name.key ≡ Some (held_of j IsOut)

  -- this job, which was ready in c, is out in d; nothing else changes
  pub record TakesOut (j : Assigned K V) (c d : CoreSeen K V) : Type 0 where
    pub was : held_in eq c j.name.version j.name.key ≡ Some (held_of j IsReady)
    pub tasks : (v : ℕ) (q : K) → held_in eq d v q ≡ cond (nat_eq j.name.version v && eq j.name.key q) (Some (held_of j IsOut)) (held_in eq c v q)
    pub ready : length c.desk.ready ≡ length d.desk.ready + 1
    pub out : length d.desk.out ≡ length c.desk.out + 1

module _ {K V : Type 0} (eq : K → K → Bool) where
  -- tasks may have gone, or ended since no memory was left; all others are as before
  abbrev pub GivesUpOnly : CoreSeen K V → CoreSeen K V → Type 0
  GivesUpOnly c d = (v : ℕ) (q : K) → (held_in eq d v q ≡ None) ⊎ (held_in eq d v q ≡ held_in eq c v q) ⊎ ((h : Held K V) × (held_in eq c v q ≡ Some h) × (held_in eq d v q ≡ Some (held_ended h.name WithNothing)))
