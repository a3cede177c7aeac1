-- The tasks of the version that a call works on, and the desk: the journal, and which tasks are ready, which are out, and how many are at work.
use Rattle.std.specs.Prelude.{◌≡◌, ◌⊎◌, ◌+◌, ◌-◌, ◌*◌, ◌≤◌, ℕ, Bool, true, List, [], ◌∷◌, ◌++◌, length, reverse, slice_get, Option, Some}
use Rattle.std.specs.Option.{option_map}
use Rattle.dice_key.specs.Meaning.{Meaning}
use Rattle.task_share.specs.Seen.{Share, task_at, is_live, asked_of}
use Rattle.journal.specs.declared.event.Told.{Told}
use Rattle.journal.specs.Law.{IsWanted}
use Rattle.core_laws.specs.Tasks.{Task}
use Rattle.core_laws.specs.Desk.{World, Desk, is_out, with_version, AreAll, Loses, Stand}
use Rattle.dice_tasks.specs.Helds.{Held, task_of}
use Rattle.lists.specs.Lists.{AreDistinct, Has}

-- what contracts see of the desk: the journal's events; the tasks that are ready, and those that are out, each by its version and key; how many
-- tasks are at work; the keys whose tasks ended and whose askers are still to be told; how many events there is room for; and how many more tasks
-- may become ready, and how many may be made, without memory
pub record DeskSeen (K V : Type 0) : Type 0 where
  pub events : List (Told K V)
  pub ready : List (ℕ × K)
  pub out : List (ℕ × K)
  pub live : ℕ
  pub ended : List K
  pub spare : ℕ
  pub ready_room : ℕ
  pub live_room : ℕ

abbrev pub desk_of : {K V : Type 0} → DeskSeen K V → Desk K
desk_of d = record { ready = d.ready; out = length d.out; live = d.live; spare = d.spare }

-- the tasks that are ready, and then those that are out, by their number
abbrev pub place_at : {K V : Type 0} → DeskSeen K V → ℕ → Option (ℕ × K)
place_at d i = slice_get (d.ready ++ d.out) i

-- ys are the xs and y, each once, in some order
pub record Gains {X : Type 0} (y : X) (xs ys : List X) : Type 0 where
  pub came : Has ys y
  pub kept : (x : X) → Has xs x → Has ys x
  pub only : (x : X) → Has ys x → Has xs x ⊎ (y ≡ x)
  pub distinct : AreDistinct ys

-- ys are the xs, each once, in some order
pub record Stays {X : Type 0} (xs ys : List X) : Type 0 where
  pub kept : (x : X) → Has xs x → Has ys x
  pub only : (x : X) → Has ys x → Has xs x
  pub distinct : AreDistinct ys

-- the desk with one more event
abbrev pub with_event : {K V : Type 0} → DeskSeen K V → Told K V → DeskSeen K V
with_event d e = record d { events = d.events ++ e ∷ []; spare = d.spare - 1 }

-- one more task, or one fewer, is at work
abbrev pub with_made : {K V : Type 0} → DeskSeen K V → DeskSeen K V
with_made d = record d { live = d.live + 1; live_room = d.live_room - 1 }

abbrev pub with_ended : {K V : Type 0} → DeskSeen K V → DeskSeen K V
with_ended d = record d { live = d.live - 1; live_room = d.live_room + 1 }

-- a key is put on the list of those whose tasks ended
abbrev pub with_told_next : {K V : Type 0} → DeskSeen K V → K → DeskSeen K V
with_told_next d k = record d { ended = d.ended ++ k ∷ []; live_room = d.live_room - 1 }

-- all but the ready and the out tasks is as it was
pub record KeepsDesk {K V : Type 0} (d e : DeskSeen K V) : Type 0 where
  pub events : e.events ≡ d.events
  pub live : e.live ≡ d.live
  pub ended : e.ended ≡ d.ended
  pub spare : e.spare ≡ d.spare
  pub live_room : e.live_room ≡ d.live_room

-- nothing but the room changes
pub record KeepsHands {K V : Type 0} (d e : DeskSeen K V) : Type 0 where
  pub events : e.events ≡ d.events
  pub ready : e.ready ≡ d.ready
  pub out : e.out ≡ d.out
  pub live : e.live ≡ d.live
  pub ended : e.ended ≡ d.ended

-- the same tasks are ready, out and at work; there may be other events, and no less room
pub record KeepsWork {K V : Type 0} (d e : DeskSeen K V) : Type 0 where
  pub ready : e.ready ≡ d.ready
  pub out : e.out ≡ d.out
  pub live : e.live ≡ d.live
  pub ended : e.ended ≡ d.ended
  pub spare : d.spare ≤ e.spare
  pub ready_room : d.ready_room ≤ e.ready_room
  pub live_room : d.live_room ≤ e.live_room

-- the last of the ready tasks goes out
pub record Takes {K V : Type 0} (p : ℕ × K) (d e : DeskSeen K V) : Type 0 where
  pub ready : d.ready ≡ e.ready ++ p ∷ []
  pub out : Gains p d.out e.out
  pub count : length e.out ≡ length d.out + 1
  pub room : e.ready_room ≡ d.ready_room
  pub rest : KeepsDesk d e

-- a task that is out becomes ready again
pub record Returns {K V : Type 0} (p : ℕ × K) (d e : DeskSeen K V) : Type 0 where
  pub ready : e.ready ≡ d.ready ++ p ∷ []
  pub out : Loses p d.out e.out
  pub count : length e.out + 1 ≡ length d.out
  pub room : e.ready_room ≡ d.ready_room
  pub rest : KeepsDesk d e

-- a task that is out is out no more: it waits, or has ended
pub record Leaves {K V : Type 0} (p : ℕ × K) (d e : DeskSeen K V) : Type 0 where
  pub ready : e.ready ≡ d.ready
  pub out : Loses p d.out e.out
  pub count : length e.out + 1 ≡ length d.out
  pub room : e.ready_room ≡ d.ready_room
  pub rest : KeepsDesk d e

-- a task that was neither ready nor out becomes ready
pub record Readies {K V : Type 0} (p : ℕ × K) (d e : DeskSeen K V) : Type 0 where
  pub ready : e.ready ≡ d.ready ++ p ∷ []
  pub out : Stays d.out e.out
  pub count : length e.out ≡ length d.out
  pub room : e.ready_room + 1 ≡ d.ready_room
  pub rest : KeepsDesk d e

-- a ready task is ready no more: it has ended
pub record Unreadies {K V : Type 0} (p : ℕ × K) (d e : DeskSeen K V) : Type 0 where
  pub ready : Loses p d.ready e.ready
  pub out : Stays d.out e.out
  pub count : length e.out ≡ length d.out
  pub room : e.ready_room ≡ d.ready_room
  pub rest : KeepsDesk d e

-- the room that was made ahead is still there
pub record KeepsDeskRoom {K V : Type 0} (d e : DeskSeen K V) : Type 0 where
  pub spare : d.spare ≤ e.spare
  pub ready : d.ready_room ≤ e.ready_room
  pub live : d.live_room ≤ e.live_room

-- there is room for these tasks to become ready and to be made, for two events for each task at work and each of these, and for these events more
pub record HasDeskRoom {K V : Type 0} (owed more tasks : ℕ) (e : DeskSeen K V) : Type 0 where
  pub spare : 2 * (e.live + tasks) + (owed + more) ≤ e.spare
  pub ready : tasks ≤ e.ready_room
  pub live : tasks ≤ e.live_room

module _ {K V : Type 0} (eq : K → K → Bool) where
  -- the tasks that a table keeps, as the laws speak of them
  abbrev pub tasks_of : List (K × Share K (Held K V)) → K → Option (Task K V)
  tasks_of ps k = option_map task_of (task_at eq ps k)

  -- each task has the name of its place
  abbrev pub AreNamed : ℕ → List (K × Share K (Held K V)) → Type 0
  AreNamed v ps = (k : K) (h : Held K V) → task_at eq ps k ≡ Some h → (h.name.version ≡ v) × (h.name.key ≡ k)

  -- the world in which version v has the tasks and asks of this table
  abbrev pub seen_world : ℕ → List (K × Share K (Held K V)) → World K V → World K V
  seen_world v ps w = with_version v (asked_of eq ps) (tasks_of ps) w

module _ {K V : Type 0} (eq : K → K → Bool) (m : Meaning K V) where
  -- what holds while a call works on version v: all versions are as they should; the out tasks are known; tasks have the names of their places;
  -- and all that is at work is wanted
  pub record Working (v : ℕ) (W : List K) (w : World K V) (owed : ℕ) (ps : List (K × Share K (Held K V))) (d : DeskSeen K V) : Type 0 where
    pub stand : Stand eq m (reverse d.events) v W (seen_world eq v ps w) (desk_of d) owed
    pub outs : AreAll (λ (p : ℕ × K). is_out ((seen_world eq v ps w).tasks p.0 p.1)) d.out
    pub named : AreNamed eq v ps
    pub wanted : (k : K) → is_live eq ps k ≡ true → IsWanted eq m (reverse d.events) v k

  -- what holds while the cascade goes on: the same, but what is at work need not be wanted any more
  pub record Cleaning (v : ℕ) (w : World K V) (owed : ℕ) (ps : List (K × Share K (Held K V))) (d : DeskSeen K V) : Type 0 where
    pub stand : Stand eq m (reverse d.events) v [] (seen_world eq v ps w) (desk_of d) owed
    pub outs : AreAll (λ (p : ℕ × K). is_out ((seen_world eq v ps w).tasks p.0 p.1)) d.out
    pub named : AreNamed eq v ps
