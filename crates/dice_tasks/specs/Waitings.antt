-- Tasks that are taken, put back, wait and go on.
use Rattle.std.specs.Prelude.{◌≡◌, ◌⊎◌, ◌<◌, ◌≤◌, ℕ, Bool, true, false, cond, not, ◌&&◌, ◌||◌, List, length, map, Some}
use Rattle.std.specs.List.{list_any, AllZip}
use Rattle.dice_key.specs.Meaning.{Meaning}
use Rattle.dice_key.specs.declared.universe.Kind.TheVariants.{Injected}
use Rattle.dice_model.specs.Eval.{HasValue}
use Rattle.dice_jobs.specs.Jobs.{Assigned, Waits}
use Rattle.task_share.specs.Asked.{By, Tasked, WaitOf, Leads, is_by}
use Rattle.task_share.specs.Seen.{Share, task_at, is_live, asks, asked_of, asker_room, wait_room, KeepsAsks, KeepsRoom}
use Rattle.journal.specs.declared.event.Told.{Told}
use Rattle.journal.specs.Events.{commits_of}
use Rattle.core_laws.specs.Tasks.{IsReady, IsOut, IsWaiting, value_of}
use Rattle.core_laws.specs.Stands.{AsksNext}
use Rattle.core_laws.specs.Desk.{Loses}
use Rattle.dice_tasks.specs.Helds.{Held, Ahead, FollowsOn, held_of}
use Rattle.dice_tasks.specs.Hands.{DeskSeen, tasks_of, Gains, Stays, Takes, Returns, Leaves, Readies}
use Rattle.lists.specs.Lists.{AreDistinct, Has}

-- a list of out tasks follows its task p: it was out or not, and is
abbrev pub OutTurns : {X : Type 0} → Bool → Bool → X → List X → List X → Type 0
OutTurns false false p xs ys = Stays xs ys
OutTurns true true p xs ys = Stays xs ys
OutTurns false true p xs ys = Gains p xs ys
OutTurns true false p xs ys = Loses p xs ys

-- a task that goes on: its place among the ready tasks, and what it goes on with
pub record Wakes (K V : Type 0) : Type 0 where
  pub place : ℕ × K
  pub ahead : Ahead K V

module _ {K : Type 0} (eq : K → K → Bool) where
  -- one of these waits is this asker's, for this key
  abbrev pub waits_so : List (WaitOf K) → K → By K → Bool
  waits_so xs q a = list_any (λ x. eq x.key q && is_by eq (Tasked x.asker) a) xs

module _ {K V : Type 0} (eq : K → K → Bool) where
  -- the task of k, which was h, is g now; which tasks are at work, and all else in the table, stays
  pub record IsTurned (k : K) (h g : Held K V) (ps qs : List (K × Share K (Held K V))) : Type 0 where
    pub was : task_at eq ps k ≡ Some h
    pub tasks : (q : K) → task_at eq qs q ≡ cond (eq k q) (Some g) (task_at eq ps q)
    pub live : (q : K) → is_live eq qs q ≡ is_live eq ps q
    pub asks : KeepsAsks eq ps qs
    pub room : KeepsRoom eq ps qs

  -- nothing that is seen of the table changes
  pub record KeepsTable (ps qs : List (K × Share K (Held K V))) : Type 0 where
    pub tasks : (q : K) → task_at eq qs q ≡ task_at eq ps q
    pub live : (q : K) → is_live eq qs q ≡ is_live eq ps q
    pub asks : KeepsAsks eq ps qs
    pub room : KeepsRoom eq ps qs

  -- the task of k at v, which was ready, goes out with the job a
  pub record TakesJob (v : ℕ) (k : K) (a : Assigned K V) (ps qs : List (K × Share K (Held K V))) (d e : DeskSeen K V) : Type 0 where
    pub table : IsTurned k (held_of a IsReady) (held_of a IsOut) ps qs
    pub desk : Takes (v, k) d e

  -- the task of k at v, which was out with the job a, becomes ready with b
  pub record ReturnsJob (v : ℕ) (k : K) (a b : Assigned K V) (ps qs : List (K × Share K (Held K V))) (d e : DeskSeen K V) : Type 0 where
    pub table : IsTurned k (held_of a IsOut) (held_of b IsReady) ps qs
    pub desk : Returns (v, k) d e

  -- there is room to wait so: these are waits of one task, each for a key that it asks for already or that has room for its ask
  pub record HasRoomFor (xs : List (WaitOf K)) (ps : List (K × Share K (Held K V))) : Type 0 where
    pub alike : (x y : WaitOf K) → Has xs x → Has xs y → x.asker ≡ y.asker
    pub askers : (x : WaitOf K) → Has xs x → (asks eq ps x.key (Tasked x.asker) ≡ true) ⊎ (0 < asker_room eq ps x.key)
    pub waits : (x : WaitOf K) → Has xs x → length xs ≤ wait_room eq ps x.asker

  -- the task of k at v, which was out with the job of p, waits for the keys of p, and these waits are asks now
  pub record ParksJob (v : ℕ) (k : K) (p : Waits K V) (xs : List (WaitOf K)) (ps qs : List (K × Share K (Held K V))) (d e : DeskSeen K V) : Type 0 where
    pub was : task_at eq ps k ≡ Some (held_of p.job IsOut)
    pub tasks : (q : K) → task_at eq qs q ≡ cond (eq k q) (Some (held_of p.job (IsWaiting p.keys))) (task_at eq ps q)
    pub live : (q : K) → is_live eq qs q ≡ is_live eq ps q
    pub asks : (q : K) (a : By K) → asks eq qs q a ≡ (asks eq ps q a || waits_so eq xs q a)
    pub desk : Leaves (v, k) d e

  -- the task of k at v, which is out, may come to wait so: the keys of p are its next batch; it waits for some of them, whose tasks are at work and do
  -- not lead back to it; and each other key of the batch is injected, or its task has ended with a value
  pub record MayPark (m : Meaning K V) (v : ℕ) (k : K) (p : Waits K V) (xs : List (WaitOf K)) (ps : List (K × Share K (Held K V))) : Type 0 where
    pub next : AsksNext eq m v k p.job.work p.job.answered (IsWaiting p.keys)
    pub some : (x : WaitOf K) × Has xs x
    pub own : (x : WaitOf K) → Has xs x → x.asker ≡ k
    pub within : (x : WaitOf K) → Has xs x → Has p.keys x.key
    pub live : (x : WaitOf K) → Has xs x → is_live eq ps x.key ≡ true
    pub apart : (x : WaitOf K) → Has xs x → Leads (asked_of eq ps) x.key k → ⊥
    pub each : (q : K) → Has p.keys q → (m.kind q ≡ Injected) ⊎ ((x : WaitOf K) × Has xs x × (x.key ≡ q)) ⊎ ((y : V) × (value_of (tasks_of eq ps q) ≡ Some y))

  -- the task y, which waited for the key k, asks for it no more, and is ready with what it goes on with
  pub record WakesOne (k : K) (y : Wakes K V) (ps qs : List (K × Share K (Held K V))) (d e : DeskSeen K V) : Type 0 where
    pub tasks : (q : K) → task_at eq qs q ≡ cond (eq y.place.1 q) (Some (held_of y.ahead.job IsReady)) (task_at eq ps q)
    pub live : (q : K) → is_live eq qs q ≡ is_live eq ps q
    pub asks : (q : K) (a : By K) → asks eq qs q a ≡ (asks eq ps q a && not (eq k q && is_by eq (Tasked y.place.1) a))
    pub desk : Readies y.place d e

  -- the task y of version v waits for the key k alone, and goes on with true answers
  pub record IsWoken (m : Meaning K V) (R : List (Told K V)) (v : ℕ) (k : K) (y : Wakes K V) (ps : List (K × Share K (Held K V))) : Type 0 where
    pub version : y.place.0 ≡ v
    pub held : Held K V
    pub was : task_at eq ps y.place.1 ≡ Some held
    pub follows : FollowsOn held y.ahead
    pub only : (q : K) → asks eq ps q (Tasked y.place.1) ≡ true → eq k q ≡ true
    pub truly : AllZip (HasValue eq m (commits_of R) y.place.0) follows.waits.keys y.ahead.values

  -- these are exactly the tasks of version v that wait for the key k alone, whose task has ended with a value
  pub record MayWake (m : Meaning K V) (R : List (Told K V)) (v : ℕ) (k : K) (ys : List (Wakes K V)) (ps : List (K × Share K (Held K V))) : Type 0 where
    pub each : (y : Wakes K V) → Has ys y → IsWoken m R v k y ps
    pub distinct : AreDistinct (map (λ (y : Wakes K V). y.place.1) ys)
    pub others : (j : K) → asks eq ps k (Tasked j) ≡ true → ((y : Wakes K V) × Has ys y × (y.place.1 ≡ j)) ⊎ ((q : K) × (eq k q ≡ false) × (asks eq ps q (Tasked j) ≡ true))
    pub value : (x : V) × (value_of (tasks_of eq ps k) ≡ Some x)

  -- whoever waits for the key k, whose task has ended with a value, waits for another key too
  pub record WaitsOn (k : K) (ps : List (K × Share K (Held K V))) : Type 0 where
    pub others : (j : K) → asks eq ps k (Tasked j) ≡ true → (q : K) × (eq k q ≡ false) × (asks eq ps q (Tasked j) ≡ true)
    pub value : (x : V) × (value_of (tasks_of eq ps k) ≡ Some x)
