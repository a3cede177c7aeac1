-- What is done when the task of a key asks a batch: tasks are made for its keys, and it waits or goes on; or it ends with a cycle.
use Rattle.std.specs.Prelude.{◌≡◌, ◌⊎◌, ◌≤◌, ◌+◌, ◌*◌, ℕ, Bool, true, false, List, ◌++◌, length, map, reverse, Option, Some}
use Rattle.std.specs.List.{AllZip, AllByRecursion}
use Rattle.dice_key.specs.Meaning.{Meaning}
use Rattle.dice_model.specs.Eval.{HasValue}
use Rattle.dice_jobs.specs.Jobs.{Assigned, answered_more}
use Rattle.task_share.specs.Seen.{Share, task_at, is_live, has_place, asker_room, wait_room, KeepsAsks}
use Rattle.journal.specs.declared.event.Told.{Told}
use Rattle.journal.specs.declared.event.Told.TheVariants.{Start, Keep, Drop}
use Rattle.journal.specs.Events.{commits_of}
use Rattle.versioned_graph.specs.Entries.{Stored}
use Rattle.core_laws.specs.Tasks.{IsReady, IsOut, IsWaiting, Outcome, WithCycle, is_going, value_of}
use Rattle.core_laws.specs.Desk.{World}
use Rattle.dice_tasks.specs.Helds.{Held, held_of, held_ended}
use Rattle.dice_tasks.specs.Hands.{DeskSeen, Working, tasks_of}
use Rattle.dice_tasks.specs.Entries.{EntriesStand}
use Rattle.dice_tasks.specs.Endings.{ComesOf, ends_so, told_end}
use Rattle.dice_tasks.specs.Makings.{IsFree, MayMake}
use Rattle.dice_steps.specs.Orders.{IsBefore}
use Rattle.dice_steps.specs.Plans.{key_in, IsPart}
use Rattle.dice_steps.specs.Taken.{MakesThese}
use Rattle.dice_steps.specs.declared.plan.Part.{Part}
use Rattle.lists.specs.Lists.{AreDistinct, Has}

module _ {K V : Type 0} (v : ℕ) (ks : List K) where
  -- an event of a task that is made for a key of these at v
  abbrev pub IsOfMakes : Told K V → Type 0
  IsOfMakes (Start w q c) = (w ≡ v) × Has ks q
  IsOfMakes (Keep w q b) = (w ≡ v) × Has ks q
  IsOfMakes _ = ⊥

-- the events of tasks of v that end so, and of others that are dropped then
abbrev pub ending_events : {K V : Type 0} → ℕ → List (K × Outcome K V) → List K → List (Told K V)
ending_events {K} {V} v os ds = map (λ (p : K × Outcome K V). told_end v p.0 p.1) os ++ map (Drop v) ds

module _ {K V : Type 0} (eq : K → K → Bool) (k : K) (ps qs : List (K × Share K (Held K V))) where
  -- all other tasks that are out stay so, with the same jobs, or have ended or were dropped; and no other comes to be out
  pub record LeavesOut : Type 0 where
    pub stay : (q : K) (a : Assigned K V) → eq k q ≡ false → task_at eq ps q ≡ Some (held_of a IsOut) → (task_at eq qs q ≡ Some (held_of a IsOut)) ⊎ (is_going (tasks_of eq qs q) ≡ false)
    pub only : (q : K) (a : Assigned K V) → task_at eq qs q ≡ Some (held_of a IsOut) → task_at eq ps q ≡ Some (held_of a IsOut)

module _ {U K V R : Type 0} (eq : K → K → Bool) (m : Meaning K V) (v : ℕ) where
  -- these parts can be made, and what holds then goes on while they are
  pub record MakesOn (W : List K) (w : World K V) (owed : ℕ) (xs : List (Part U K V R)) (ps : List (K × Share K (Held K V))) (d : DeskSeen K V) (es : List (K × Stored K V)) : Type 0 where
    pub working : Working eq m v W w (owed + 3 * length xs) ps d
    pub entries : EntriesStand eq m (reverse d.events) es
    pub born : ℕ
    pub each : (p : Part U K V R) → Has xs p → IsPart eq m v born ps es p
    pub may : (p : Part U K V R) → Has xs p → MayMake eq m (reverse d.events) v (key_in p) born
    pub distinct : AreDistinct (map key_in xs)

module _ {U K V R : Type 0} (eq : K → K → Bool) (xs : List (Part U K V R)) where
  -- none of these parts is of the key q
  abbrev pub IsBeside : K → Type 0
  IsBeside q = (p : Part U K V R) → Has xs p → eq (key_in p) q ≡ false

  -- there is room to make them
  pub record HasRoomToMake (ps : List (K × Share K (Held K V))) (d : DeskSeen K V) : Type 0 where
    pub places : (p : Part U K V R) → Has xs p → has_place eq ps (key_in p) ≡ true
    pub spare : length xs ≤ d.spare
    pub ready : length xs ≤ d.ready_room
    pub live : length xs ≤ d.live_room

  -- they were made: each key that is waited for has a task at work, and each other one a task that has ended with a value; all else stays
  pub record MakesParts (v : ℕ) (ps : List (K × Share K (Held K V))) (d : DeskSeen K V) (qs : List (K × Share K (Held K V))) (e : DeskSeen K V) : Type 0 where
    pub asks : KeepsAsks eq ps qs
    pub others : (q : K) → IsBeside q → task_at eq qs q ≡ task_at eq ps q
    pub lives : (q : K) → IsBeside q → is_live eq qs q ≡ is_live eq ps q
    pub awaited : (p : Part U K V R) → Has xs p → is_live eq qs (key_in p) ≡ p.awaited
    pub valued : (p : Part U K V R) → Has xs p → p.awaited ≡ false → (x : V) × (value_of (tasks_of eq qs (key_in p)) ≡ Some x)
    pub stays : (q : K) (h : Held K V) → task_at eq ps q ≡ Some h → (g : Held K V) × (task_at eq qs q ≡ Some g)
    pub out : (q : K) (a : Assigned K V) → task_at eq ps q ≡ Some (held_of a IsOut) → task_at eq qs q ≡ Some (held_of a IsOut)
    pub only : (q : K) (a : Assigned K V) → task_at eq qs q ≡ Some (held_of a IsOut) → task_at eq ps q ≡ Some (held_of a IsOut)
    pub askers : (p : Part U K V R) → Has xs p → p.awaited ≡ true → asker_room eq ps (key_in p) ≤ asker_room eq qs (key_in p)
    pub other_askers : (q : K) → IsBeside q → asker_room eq ps q ≤ asker_room eq qs q
    pub waits : (q : K) → IsBeside q → wait_room eq ps q ≤ wait_room eq qs q
    pub events : List (Told K V)
    pub told : e.events ≡ d.events ++ events
    pub of_makes : AllByRecursion (IsOfMakes v (map key_in xs)) events
    pub ended : e.ended ≡ d.ended

module _ {U K V R : Type 0} (eq : K → K → Bool) (m : Meaning K V) (v born : ℕ) (xs : List (Part U K V R)) where
  -- these parts are to be made, each of another key
  pub record AreMakable (ps : List (K × Share K (Held K V))) (es : List (K × Stored K V)) : Type 0 where
    pub each : (p : Part U K V R) → Has xs p → IsPart eq m v born ps es p
    pub distinct : AreDistinct (map key_in xs)

  -- tasks were made of just those keys of these parts that had none, or one that was given up, the last part first; all other tasks stay
  pub record MakesParted (ps : List (K × Share K (Held K V))) (d : DeskSeen K V) (es : List (K × Stored K V)) (qs : List (K × Share K (Held K V))) (e : DeskSeen K V) (fs : List (K × Stored K V)) : Type 0 where
    pub made : List K
    pub distinct : AreDistinct made
    pub of_part : (q : K) → Has made q → (p : Part U K V R) × Has xs p × (key_in p ≡ q)
    pub free : (q : K) → Has made q → IsFree (task_at eq ps q)
    pub all : (p : Part U K V R) → Has xs p → IsFree (task_at eq ps (key_in p)) → Has made (key_in p)
    pub order : (j q : K) → IsBefore made j q → IsBefore (map key_in xs) q j
    pub these : MakesThese eq m v made ps d es born qs e fs
    pub others : (q : K) → (Has made q → ⊥) → task_at eq qs q ≡ task_at eq ps q

module _ {K V : Type 0} (eq : K → K → Bool) (v : ℕ) (path : Option (List K)) (k : K) where
  -- the task of k has ended so, with all that asked for it; and what nobody asks for then was dropped
  pub record GivesUp (ps : List (K × Share K (Held K V))) (d : DeskSeen K V) (qs : List (K × Share K (Held K V))) (e : DeskSeen K V) : Type 0 where
    pub was : Held K V
    pub there : task_at eq ps k ≡ Some was
    pub is : task_at eq qs k ≡ Some (held_ended was.name (ends_so path))
    pub out : LeavesOut eq k ps qs
    pub outcomes : List (K × Outcome K V)
    pub each : (p : K × Outcome K V) → Has outcomes p → ComesOf path p.1
    pub drops : List K
    pub told : e.events ≡ d.events ++ ending_events v outcomes drops

module _ {K V : Type 0} (eq : K → K → Bool) (m : Meaning K V) (v : ℕ) (a : Assigned K V) (ks : List K) where
  -- the task of a's key, which was out with the job a and asked the batch ks: it goes on with the keys' values, waits for them, or has ended with a
  -- cycle that one of them comes to
  abbrev pub IsGiven : List (Told K V) → List (K × Share K (Held K V)) → Type 0
  IsGiven R qs = ((xs : List V) × (task_at eq qs a.name.key ≡ Some (held_of (answered_more a ks xs) IsReady)) × AllZip (HasValue eq m (commits_of R) v) ks xs)
      ⊎ (task_at eq qs a.name.key ≡ Some (held_of a (IsWaiting ks)))
      ⊎ ((path : List K) × (task_at eq qs a.name.key ≡ Some (held_ended a.name (WithCycle path))))

  -- what the step tells: keys of the batch are started or kept; or tasks end with a cycle, and others are dropped
  abbrev pub IsToldOf : List (Told K V) → Type 0
  IsToldOf xs = AllByRecursion (IsOfMakes v ks) xs ⊎ ((path : List K) × (os : List (K × Outcome K V)) × (ds : List K) × ((p : K × Outcome K V) → Has os p → p.1 ≡ WithCycle path) × (xs ≡ ending_events v os ds))

  -- the batch is taken up
  pub record TakesUp (ps : List (K × Share K (Held K V))) (d : DeskSeen K V) (qs : List (K × Share K (Held K V))) (e : DeskSeen K V) : Type 0 where
    pub given : IsGiven (reverse e.events) qs
    pub out : LeavesOut eq a.name.key ps qs
    pub events : List (Told K V)
    pub told : e.events ≡ d.events ++ events
    pub of_batch : IsToldOf events
