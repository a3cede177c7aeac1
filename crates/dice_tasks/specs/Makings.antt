-- Tasks that are to be made, what making one needs, and what it does.
use Rattle.std.specs.Prelude.{◌≡◌, ◌≢◌, ◌<◌, ◌≤◌, ◌+◌, ◌++◌, ◌&&◌, not, cond, ℕ, Bool, true, false, List, [], ◌∷◌, length, Option, Some, None}
use Rattle.std.specs.Arc.{arc_value}
use Rattle.std.specs.List.{AllByRecursion}
use Rattle.std.specs.Option.{option_map}
use Rattle.dice_key.specs.Meaning.{Meaning, Answered}
use Rattle.dice_key.specs.declared.universe.Kind.TheVariants.{Injected}
use Rattle.dice_jobs.specs.Jobs.{Name, Computes, Checks}
use Rattle.task_share.specs.Asked.{By, Tasked, is_by}
use Rattle.task_share.specs.Seen.{Share, task_at, is_live, asks, has_place, KeepsAsks, KeepsRoom, KeepsOtherRoom}
use Rattle.journal.specs.declared.event.Told.{Told}
use Rattle.journal.specs.declared.event.Told.TheVariants.{Start, Keep}
use Rattle.journal.specs.Events.{commits_of}
use Rattle.journal.specs.Law.{IsWanted}
use Rattle.journal.specs.Tell.{reason_of}
use Rattle.versioned_graph.specs.Edges.{is_edge}
use Rattle.versioned_graph.specs.Entries.{Stored, Kept, entry_at, seen_at}
use Rattle.versioned_graph.specs.Looks.{Look, Matches, Computes as LooksNew, Checks as LooksOld, look}
use Rattle.versioned_graph.specs.declared.found.Why.{Why}
use Rattle.core_laws.specs.Tasks.{IsReady, Ended, WithValue, WithNothing}
use Rattle.dice_tasks.specs.Helds.{Held, held_of, held_ended}
use Rattle.dice_tasks.specs.Hands.{DeskSeen, with_event, with_made, Readies}
use Rattle.dice_tasks.specs.Entries.{started_for}
use Rattle.dice_tasks.specs.Shelves.{place_of}
use Rattle.dice_tasks.specs.declared.making.Making.{Making}
use Rattle.dice_tasks.specs.declared.making.Making.TheVariants.{Join, Match, Run, Check}
use Rattle.lists.specs.Lists.{Has}

module _ {K V : Type 0} where
  -- the key has no task, or one that was given up
  abbrev pub IsFree : Option (Held K V) → Type 0
  IsFree None = Unit {0}
  IsFree (Some h) = h.standing ≡ Ended WithNothing

  -- the key has a task that was not given up
  abbrev pub HasTask : Option (Held K V) → Type 0
  HasTask None = ⊥
  HasTask (Some h) = h.standing ≡ Ended WithNothing → ⊥

  -- a new task that computes, and one that checks
  abbrev pub held_run : Name K → Held K V
  held_run n = held_of (record { name = n; answered = []; work = Computes }) IsReady

  abbrev pub held_check : Name K → V → List (Answered K V) → ℕ → Held K V
  held_check n x T b = held_of (record { name = n; answered = []; work = Checks x T b }) IsReady

module _ {K V : Type 0} (v : ℕ) (k : K) where
  -- the task that is made of k at v if a look-up says this, when the journal has so many events: a value that matches ends it; a key that has to be
  -- computed is begun; and a value whose dependencies have to be checked waits for its check
  abbrev pub task_by : ℕ → Look K V → Held K V
  task_by born (Matches x b) = held_ended (record { version = v; key = k; born = born }) (WithValue x)
  task_by born (LooksNew y) = held_run (record { version = v; key = k; born = born })
  task_by born (LooksOld x T b) = held_check (record { version = v; key = k; born = born }) x T b

  -- what is told of it: that the value is kept; or that the key is started, for the reason that the look-up has
  abbrev pub told_by : Look K V → List (Told K V)
  told_by (Matches x b) = Keep v k b ∷ []
  told_by (LooksNew y) = Start v k (started_for y) ∷ []
  told_by (LooksOld x T b) = []

-- what becomes of the entry: if its value matches, it was seen at v
abbrev pub entry_by : {K V : Type 0} → ℕ → Look K V → Option (Kept K V) → Option (Kept K V)
entry_by v (Matches x b) o = option_map (seen_at v) o
entry_by v (LooksNew y) o = o
entry_by v (LooksOld x T b) o = o

module _ {K T : Type 0} (eq : K → K → Bool) (k : K) (t : T) (ps qs : List (K × Share K T)) where
  -- k has this task, which has not ended; all else stays
  pub record Makes : Type 0 where
    pub tasks : (q : K) → task_at eq qs q ≡ cond (eq k q) (Some t) (task_at eq ps q)
    pub live : (q : K) → is_live eq qs q ≡ cond (eq k q) true (is_live eq ps q)
    pub asks : KeepsAsks eq ps qs
    pub room : KeepsRoom eq ps qs

  -- k has this task, which has ended, and asks for nothing
  pub record MakesEnded : Type 0 where
    pub tasks : (q : K) → task_at eq qs q ≡ cond (eq k q) (Some t) (task_at eq ps q)
    pub live : (q : K) → is_live eq qs q ≡ cond (eq k q) false (is_live eq ps q)
    pub asks : (q : K) (a : By K) → asks eq qs q a ≡ (asks eq ps q a && not (is_by eq (Tasked k) a))
    pub room : KeepsOtherRoom eq k ps qs

module _ {K V : Type 0} (eq : K → K → Bool) where
  -- k has no task at work at v, and there is room for one
  pub record HasMakeRoom (v : ℕ) (k : K) (ps : List (K × Share K (Held K V))) (d : DeskSeen K V) : Type 0 where
    pub spare : 0 < d.spare
    pub ready_room : 0 < d.ready_room
    pub live_room : 0 < d.live_room
    pub place : has_place eq ps k ≡ true
    pub idle : is_live eq ps k ≡ false
    pub unready : Has d.ready (v, k) → ⊥
    pub home : Has d.out (v, k) → ⊥

module _ {K V : Type 0} (eq : K → K → Bool) (m : Meaning K V) (R : List (Told K V)) where
  -- a task of k at v may be made, by a journal of this length: k is not injected, and it is wanted
  pub record MayMake (v : ℕ) (k : K) (since : ℕ) : Type 0 where
    pub computed : m.kind k ≢ Injected
    pub wanted : IsWanted eq m R v k
    pub within : v ≤ length (commits_of R)
    pub born : since ≤ length R

module _ {U K V A : Type 0} (v : ℕ) (k : K) (born : ℕ) where
  -- what is to be made of k at v if a look-up says this
  abbrev pub IsMakingFor : Look K V → Making U K V A → Type 0
  IsMakingFor o Join = ⊥
  IsMakingFor o (Match event base task) = (x : V) × (o ≡ Matches x base) × (task ≡ held_ended (record { version = v; key = k; born = born }) (WithValue x))
  IsMakingFor o (Run event cause ready task) = (y : Why) × (o ≡ LooksNew y) × (reason_of cause ≡ started_for y) × (task ≡ held_run (record { version = v; key = k; born = born }))
  IsMakingFor o (Check ready task) = (x : V) × (T : List (Answered K V)) × (b : ℕ) × (o ≡ LooksOld x T b) × (task ≡ held_check (record { version = v; key = k; born = born }) x T b)

module _ {U K V A : Type 0} (eq : K → K → Bool) (m : Meaning K V) (v : ℕ) (k : K) (born : ℕ) (ps : List (K × Share K (Held K V))) (es : List (K × Stored K V)) where
  -- what is to be made of k at v: nothing, if it has a task that was not given up; otherwise what a look-up says
  abbrev pub IsMaking : Making U K V A → Type 0
  IsMaking Join = HasTask (task_at eq ps k)
  IsMaking (Match event base task) = IsFree (task_at eq ps k) × IsMakingFor {U = U} {A = A} v k born (look m.is_transient (entry_at eq es k) v) (Match event base task)
  IsMaking (Run event cause ready task) = IsFree (task_at eq ps k) × IsMakingFor {U = U} {A = A} v k born (look m.is_transient (entry_at eq es k) v) (Run event cause ready task)
  IsMaking (Check ready task) = IsFree (task_at eq ps k) × IsMakingFor {U = U} {A = A} v k born (look m.is_transient (entry_at eq es k) v) (Check ready task)

module _ {U K V A : Type 0} (v : ℕ) (k : K) where
  -- its copies of the key are of k
  abbrev pub IsOfKey : Making U K V A → Type 0
  IsOfKey Join = Unit {0}
  IsOfKey (Match event base task) = arc_value event ≡ k
  IsOfKey (Run event cause ready task) = (arc_value event ≡ k) × (place_of ready ≡ (v, k))
  IsOfKey (Check ready task) = place_of ready ≡ (v, k)

module _ {U K V A : Type 0} (eq : K → K → Bool) (v : ℕ) (k : K) (ps : List (K × Share K (Held K V))) (d : DeskSeen K V) where
  -- there is room to make it
  abbrev pub CanMake : Making U K V A → Type 0
  CanMake Join = Unit {0}
  CanMake (Match event base task) = HasMakeRoom eq v k ps d
  CanMake (Run event cause ready task) = HasMakeRoom eq v k ps d
  CanMake (Check ready task) = HasMakeRoom eq v k ps d

  -- it was made: what became of the tasks, of the desk and of the entries
  abbrev pub IsMade : List (K × Stored K V) → Making U K V A → List (K × Share K (Held K V)) → DeskSeen K V → List (K × Stored K V) → Type 0
  IsMade es Join qs e fs = (qs ≡ ps) × (e ≡ d) × (fs ≡ es)
  IsMade es (Match event base task) qs e fs = MakesEnded eq k task ps qs × (e ≡ with_event d (Keep v k base)) × ((q : K) → entry_at eq fs q ≡ cond (eq k q) (option_map (seen_at v) (entry_at eq es k)) (entry_at eq es q)) × ((j q : K) → is_edge eq fs j q ≡ is_edge eq es j q)
  IsMade es (Run event cause ready task) qs e fs = Makes eq k task ps qs × Readies (v, k) (with_made (with_event d (Start v k (reason_of cause)))) e × (fs ≡ es)
  IsMade es (Check ready task) qs e fs = Makes eq k task ps qs × Readies (v, k) (with_made d) e × (fs ≡ es)

module _ {K V : Type 0} (v : ℕ) (k : K) where
  -- an event of a task of k at v that is made
  abbrev pub IsOfMake : Told K V → Type 0
  IsOfMake (Start w q c) = (w ≡ v) × (q ≡ k)
  IsOfMake (Keep w q b) = (w ≡ v) × (q ≡ k)
  IsOfMake _ = ⊥

module _ {K V : Type 0} (eq : K → K → Bool) (v : ℕ) (k : K) where
  -- whatever is made of k at v: what other keys have stays, and all recorded edges; and of each room that was made ahead at most one place was used
  pub record MakesAlone (ps : List (K × Share K (Held K V))) (d : DeskSeen K V) (es : List (K × Stored K V)) (qs : List (K × Share K (Held K V))) (e : DeskSeen K V) (fs : List (K × Stored K V)) : Type 0 where
    pub tasks : (q : K) → eq k q ≡ false → task_at eq qs q ≡ task_at eq ps q
    pub lives : (q : K) → eq k q ≡ false → is_live eq qs q ≡ is_live eq ps q
    pub entries : (q : K) → eq k q ≡ false → entry_at eq fs q ≡ entry_at eq es q
    pub edges : (j q : K) → is_edge eq fs j q ≡ is_edge eq es j q
    pub asks : (q : K) (a : By K) → is_by eq (Tasked k) a ≡ false → asks eq qs q a ≡ asks eq ps q a
    pub room : KeepsOtherRoom eq k ps qs
    pub events : List (Told K V)
    pub told : e.events ≡ d.events ++ events
    pub of_make : AllByRecursion (IsOfMake v k) events
    pub ended : e.ended ≡ d.ended
    pub spare : d.spare ≤ e.spare + 1
    pub ready_room : d.ready_room ≤ e.ready_room + 1
    pub live_room : d.live_room ≤ e.live_room + 1
