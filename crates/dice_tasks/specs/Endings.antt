-- Tasks that end, and tasks that are dropped.
use Rattle.std.specs.Prelude.{◌≡◌, ◌≤◌, ◌+◌, ◌*◌, ◌<◌, ◌⊎◌, ℕ, Bool, true, false, cond, not, ◌&&◌, List, ◌++◌, map, reverse, Option, Some, None}
use Rattle.std.specs.List.{list_any}
use Rattle.dice_key.specs.Meaning.{Meaning}
use Rattle.task_share.specs.Above.{AreCounted}
use Rattle.task_share.specs.Asked.{By, Promised, Tasked, is_by, Leads, Takes, Cascade}
use Rattle.task_share.specs.Seen.{Share, task_at, is_live, asks, asked_of, KeepsTasks, KeepsAsks, KeepsRoom, KeepsOtherRoom}
use Rattle.journal.specs.declared.event.Told.{Told}
use Rattle.journal.specs.declared.event.Told.TheVariants.{Drop}
use Rattle.journal.specs.declared.event.Told.TheVariants as event
use Rattle.journal.specs.Events.{commits_of}
use Rattle.core_laws.specs.Tasks.{IsReady, IsOut, IsWaiting, Outcome, WithValue, WithCycle, WithNothing, Standing, Works, Ended, goes_on, is_going}
use Rattle.journal.specs.Law.{CycleStands}
use Rattle.core_laws.specs.Desk.{World, is_ready, is_out}
use Rattle.dice_tasks.specs.declared.end.How.{How}
use Rattle.dice_tasks.specs.declared.end.How.TheVariants.{Lost, Cycle}
use Rattle.dice_jobs.specs.Jobs.{Name, Assigned}
use Rattle.dice_tasks.specs.Helds.{Held, held_of, held_ended}
use Rattle.dice_tasks.specs.Hands.{DeskSeen, tasks_of, AreNamed, with_event, with_ended, with_told_next, Unreadies, Leaves, Returns, Working}
use Rattle.lists.specs.Lists.{AreDistinct, Has}

-- a task that stood so, of this version and key, is no more among those that are ready or out
abbrev pub Quits : {K V : Type 0} → Standing K V → ℕ × K → DeskSeen K V → DeskSeen K V → Type 0
Quits (Works w IsReady A) p d e = Unreadies p d e
Quits (Works w IsOut A) p d e = Leaves p d e
Quits (Works w (IsWaiting ks) A) p d e = e ≡ d
Quits (Ended o) p d e = e ≡ d

module _ {K V : Type 0} (eq : K → K → Bool) (v : ℕ) where
  -- the desk knows the tasks of v: which are ready, which are out, and that some are at work; and there is room for their ends
  pub record Knows (ps : List (K × Share K (Held K V))) (d : DeskSeen K V) : Type 0 where
    pub ready : (q : K) → is_ready (tasks_of eq ps q) ≡ true → Has d.ready (v, q)
    pub out : (q : K) → is_out (tasks_of eq ps q) ≡ true → Has d.out (v, q)
    pub live : (q : K) → is_live eq ps q ≡ true → 0 < d.live
    pub going : (q : K) → is_live eq ps q ≡ is_going (tasks_of eq ps q)
    pub room : 2 * d.live ≤ d.spare
    pub named : AreNamed eq v ps
    pub askers : (q j : K) → asks eq ps q (Tasked j) ≡ true → is_live eq ps j ≡ true

  -- the task h of k, which was at work and which nobody asked for, is dropped
  pub record DropsTask (k : K) (h : Held K V) (ps qs : List (K × Share K (Held K V))) (d e : DeskSeen K V) : Type 0 where
    pub was : task_at eq ps k ≡ Some h
    pub takes : Takes eq (asked_of eq ps) k (asked_of eq qs)
    pub tasks : (q : K) → task_at eq qs q ≡ cond (eq k q) None (task_at eq ps q)
    pub room : KeepsOtherRoom eq k ps qs
    pub left : DeskSeen K V
    pub quits : Quits h.standing (v, k) d left
    pub desk : e ≡ with_event (with_ended left) (Drop v k)

  -- these tasks, each at work and asked for by nobody when its turn comes, are dropped one after the other
  pub record DropsTasks (ks : List K) (ps qs : List (K × Share K (Held K V))) (d e : DeskSeen K V) : Type 0 where
    pub cascade : Cascade eq (asked_of eq ps) ks (asked_of eq qs)
    pub tasks : (q : K) → task_at eq qs q ≡ cond (list_any (eq q) ks) None (task_at eq ps q)
    pub events : e.events ≡ d.events ++ map (Drop v) ks
    pub ended : e.ended ≡ d.ended
    pub ready_room : e.ready_room ≡ d.ready_room
    pub live_room : d.live_room ≤ e.live_room

  -- the task h of k, which was at work, ends so, and asks for nothing any more
  pub record EndsTask (k : K) (h : Held K V) (o : Outcome K V) (ps qs : List (K × Share K (Held K V))) (d e : DeskSeen K V) : Type 0 where
    pub was : task_at eq ps k ≡ Some h
    pub going : goes_on h.standing ≡ true
    pub tasks : (q : K) → task_at eq qs q ≡ cond (eq k q) (Some (held_ended h.name o)) (task_at eq ps q)
    pub live : (q : K) → is_live eq qs q ≡ (is_live eq ps q && not (eq k q))
    pub asks : (q : K) (a : By K) → asks eq qs q a ≡ (asks eq ps q a && not (is_by eq (Tasked k) a))
    pub room : KeepsOtherRoom eq k ps qs
    pub left : DeskSeen K V
    pub quits : Quits h.standing (v, k) d left
    pub desk : e ≡ with_ended left

  -- and this event tells it
  pub record TellsEnd (k : K) (h : Held K V) (o : Outcome K V) (x : Told K V) (ps qs : List (K × Share K (Held K V))) (d e : DeskSeen K V) : Type 0 where
    pub mid : DeskSeen K V
    pub ends : EndsTask k h o ps qs d mid
    pub desk : e ≡ with_event mid x

  -- and the key is put on the list of those whose askers are still to be told
  pub record ListsEnd (k : K) (h : Held K V) (o : Outcome K V) (x : Told K V) (ps qs : List (K × Share K (Held K V))) (d e : DeskSeen K V) : Type 0 where
    pub mid : DeskSeen K V
    pub tells : TellsEnd k h o x ps qs d mid
    pub desk : e ≡ with_told_next mid k

-- how a task ends that is given up: with the cycle, if there is one, otherwise as lost
abbrev pub ends_so : {K V : Type 0} → Option (List K) → Outcome K V
ends_so None = WithNothing
ends_so (Some p) = WithCycle p

abbrev pub ComesOf : {K V : Type 0} → Option (List K) → Outcome K V → Type 0
ComesOf path o = o ≡ ends_so path

-- the cycle, if there is one
abbrev pub path_of : {K : Type 0} → How K → Option (List K)
path_of Lost = None
path_of (Cycle c) = Some c.path

-- there are so many owners of its path
abbrev pub HasOwners : {K : Type 0} → ℕ → How K → Type 0
HasOwners n Lost = Unit {0}
HasOwners n (Cycle c) = n ≤ c.count

-- so many of them were given away
abbrev pub AreGiven : {K : Type 0} → ℕ → How K → How K → Type 0
AreGiven n Lost Lost = Unit {0}
AreGiven n Lost (Cycle d) = ⊥
AreGiven n (Cycle c) Lost = ⊥
AreGiven n (Cycle c) (Cycle d) = (d.path ≡ c.path) × (c.count ≡ d.count + n)

-- the event that tells how a task ended
abbrev pub told_end : {K V : Type 0} → ℕ → K → Outcome K V → Told K V
told_end v k (WithValue x) = event.End v k
told_end v k (WithCycle p) = event.Cyclic v k
told_end v k WithNothing = event.Lost v k

module _ {K V : Type 0} (eq : K → K → Bool) (m : Meaning K V) where
  -- the key reaches the cycle, if there is one
  abbrev pub ReachesPath : Option (List K) → List (List (K × V)) → ℕ → K → Type 0
  ReachesPath None C v k = Unit {0}
  ReachesPath (Some p) C v k = CycleStands eq m C v k p

  -- what holds while the askers of ended tasks are told: those whose askers are still to be told are on the list, and each reaches the cycle
  pub record Telling (path : Option (List K)) (v : ℕ) (w : World K V) (owed : ℕ) (ps : List (K × Share K (Held K V))) (d : DeskSeen K V) : Type 0 where
    pub working : Working eq m v (reverse d.ended) w owed ps d
    pub reached : (q : K) → Has d.ended q → ReachesPath path (commits_of (reverse d.events)) v q

module _ {K V : Type 0} (eq : K → K → Bool) where
  -- nobody asks for the last key on the list, which is taken off
  pub record HasTold (ps qs : List (K × Share K (Held K V))) (d e : DeskSeen K V) : Type 0 where
    pub key : K
    pub none : (j : K) → asks eq ps key (Tasked j) ≡ false
    pub tasks : KeepsTasks eq ps qs
    pub asks : KeepsAsks eq ps qs
    pub desk : d ≡ with_told_next e key

module _ {K V : Type 0} (eq : K → K → Bool) (v : ℕ) where
  -- a task that asks for a key on the list ends
  pub record EndsAsker (path : Option (List K)) (ps qs : List (K × Share K (Held K V))) (d e : DeskSeen K V) : Type 0 where
    pub key : K
    pub listed : Has d.ended key
    pub asker : K
    pub asks : asks eq ps key (Tasked asker) ≡ true
    pub held : Held K V
    pub came : Outcome K V
    pub comes : ComesOf path came
    pub ends : ListsEnd eq v asker held came (told_end v asker came) ps qs d e

  -- these tasks end, in this order, each once: one of them is that of k, and each other one asked for one of them; all of them were at work, and
  -- none is then; no other task changes, and none ceases to ask; no promise changes
  pub record EndsTasks (path : Option (List K)) (k : K) (es : List (K × Outcome K V)) (ps qs : List (K × Share K (Held K V))) (d e : DeskSeen K V) : Type 0 where
    pub events : e.events ≡ d.events ++ map (λ (p : K × Outcome K V). told_end v p.0 p.1) es
    pub first : (o : Outcome K V) × Has es (k, o)
    pub comes : (p : K × Outcome K V) → Has es p → ComesOf path p.1
    pub asked : (p : K × Outcome K V) → Has es p → (p.0 ≡ k) ⊎ ((q : K × Outcome K V) × Has es q × (asks eq ps q.0 (Tasked p.0) ≡ true))
    pub ended : (p : K × Outcome K V) → Has es p → (h : Held K V) × (task_at eq ps p.0 ≡ Some h) × (goes_on h.standing ≡ true) × (task_at eq qs p.0 ≡ Some (held_ended h.name p.1))
    pub others : (q : K) → ((p : K × Outcome K V) → Has es p → p.0 ≡ q → ⊥) → task_at eq qs q ≡ task_at eq ps q
    pub fewer : (q : K) (a : By K) → asks eq qs q a ≡ true → asks eq ps q a ≡ true
    pub promises : (q : K) (n : ℕ) → asks eq qs q (Promised n) ≡ asks eq ps q (Promised n)
    pub stays : (q j : K) → asks eq ps q (Tasked j) ≡ true → (asks eq qs q (Tasked j) ≡ true) ⊎ ((o : Outcome K V) × Has es (j, o))
    pub distinct : AreDistinct (map (λ (p : K × Outcome K V). p.0) es)
    pub idle : (p : K × Outcome K V) → Has es p → is_live eq qs p.0 ≡ false
    pub ready_room : e.ready_room ≡ d.ready_room
    pub live_room : d.live_room ≤ e.live_room

  -- the check of k, which was out, has become the task g, which is ready, and this event tells it
  pub record BeginsAnew (k : K) (h g : Held K V) (x : Told K V) (ps qs : List (K × Share K (Held K V))) (d e : DeskSeen K V) : Type 0 where
    pub was : task_at eq ps k ≡ Some h
    pub tasks : (q : K) → task_at eq qs q ≡ cond (eq k q) (Some g) (task_at eq ps q)
    pub live : (q : K) → is_live eq qs q ≡ is_live eq ps q
    pub asks : KeepsAsks eq ps qs
    pub room : KeepsRoom eq ps qs
    pub ready : DeskSeen K V
    pub returns : Returns (v, k) d ready
    pub desk : e ≡ with_event ready x

module _ {K V : Type 0} (eq : K → K → Bool) where
  -- whoever is asked for has a task
  abbrev pub AreTasked : List (K × Share K (Held K V)) → Type 0
  AreTasked ps = (k : K) (a : By K) → asks eq ps k a ≡ true → (h : Held K V) × (task_at eq ps k ≡ Some h)

module _ {K V : Type 0} (eq : K → K → Bool) where
  -- there is an owner of the path for each task that ends: that of k, and each that asks for it, directly or through others
  abbrev pub IsEnough : List (K × Share K (Held K V)) → K → How K → Type 0
  IsEnough ps k Lost = Unit {0}
  IsEnough ps k (Cycle c) = AreCounted (asked_of eq ps) k c.count

  -- these tasks are that of k, or ask for it, directly or through others
  abbrev pub EndAbove : List (K × Outcome K V) → List (K × Share K (Held K V)) → K → Type 0
  EndAbove es ps k = (q : K) (o : Outcome K V) → Has es (q, o) → Leads (asked_of eq ps) q k

  -- each task that asked for one of these is one of these
  abbrev pub EndWithAskers : List (K × Outcome K V) → List (K × Share K (Held K V)) → Type 0
  EndWithAskers es ps = (q j : K) (o : Outcome K V) → Has es (q, o) → asks eq ps q (Tasked j) ≡ true → (r : Outcome K V) × Has es (j, r)

  -- the task of k ends, with the cycle if there is one, and with it each that asks for it, each that asks for one of these, and so on, and no
  -- other; and then those are dropped. No task is told of twice
  pub record GivesUpAll (v : ℕ) (path : Option (List K)) (k : K) (ps qs : List (K × Share K (Held K V))) (d e : DeskSeen K V) : Type 0 where
    pub ends : List (K × Outcome K V)
    pub drops : List K
    pub tasks : List (K × Share K (Held K V))
    pub desk : DeskSeen K V
    pub ended : EndsTasks eq v path k ends ps tasks d desk
    pub own : Has ends (k, ends_so path)
    pub askers : EndWithAskers ends ps
    pub once : AreDistinct (map (λ (p : K × Outcome K V). p.0) ends ++ drops)
    pub dropped : DropsTasks eq v drops tasks qs desk e

  -- the job of this name is out
  abbrev pub IsJobNamed : Name K → List (K × Share K (Held K V)) → Type 0
  IsJobNamed n ps = (a : Assigned K V) × (task_at eq ps n.key ≡ Some (held_of a IsOut)) × (a.name ≡ n)
