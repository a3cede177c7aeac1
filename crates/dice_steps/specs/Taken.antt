-- What becomes of the batch that the task of a key asks: a key of it comes to a cycle, and the task ends with it; or each key has its task, and the
-- asking task waits for those that have not ended, or goes on with the answers.
use Rattle.std.specs.Prelude.{◌≡◌, ◌≢◌, ◌⊎◌, ◌&&◌, ◌||◌, ℕ, Bool, true, false, List, [], ◌∷◌, ◌++◌, length, Some, None}
use Rattle.std.specs.List.{AllZip, list_any}
use Rattle.dice_key.specs.Meaning.{Meaning}
use Rattle.dice_key.specs.declared.universe.Kind.TheVariants.{Injected}
use Rattle.dice_jobs.specs.Jobs.{Assigned, answered_more}
use Rattle.task_share.specs.Asked.{By, Tasked, Leads, is_by}
use Rattle.task_share.specs.Seen.{Share, task_at, asks, asked_of, KeepsAsks}
use Rattle.cycle_guard.specs.WaitCycle.{IsWaitCycle}
use Rattle.injected.specs.Seen.{Seen, cell_at}
use Rattle.journal.specs.declared.event.Told.{Told}
use Rattle.versioned_graph.specs.Edges.{is_edge}
use Rattle.versioned_graph.specs.Entries.{Stored, entry_at}
use Rattle.versioned_graph.specs.Looks.{Look, look}
use Rattle.core_laws.specs.Tasks.{IsReady, IsWaiting, is_going, value_of}
use Rattle.dice_tasks.specs.CyclePaths.{path_with}
use Rattle.dice_tasks.specs.Endings.{GivesUpAll}
use Rattle.dice_tasks.specs.Helds.{Held, held_of}
use Rattle.dice_tasks.specs.Hands.{DeskSeen, tasks_of}
use Rattle.dice_tasks.specs.Makings.{IsFree, task_by, told_by, entry_by}
use Rattle.dice_steps.specs.Orders.{AreInOrder}
use Rattle.lists.specs.Lists.{AreDistinct, Has}

module _ {K V : Type 0} (eq : K → K → Bool) (ps : List (K × Share K (Held K V))) where
  -- the task of q has not ended with a cycle
  abbrev pub HasNoPath : K → Type 0
  HasNoPath q = path_with (task_at eq ps q) ≡ None

  -- the path is the cycle that the wait of the task of k for q would close, or that with which the task of q has ended
  abbrev pub IsPathAt : K → K → List K → Type 0
  IsPathAt k q path = IsWaitCycle (asked_of eq ps) k q path ⊎ (path_with (task_at eq ps q) ≡ Some path)

  -- the task of k may wait for q: the wait would close no cycle, and the task of q has not ended with one
  pub record MayWaitFor (k q : K) : Type 0 where
    pub apart : Leads (asked_of eq ps) q k → ⊥
    pub whole : HasNoPath q

  -- the first of these keys, in their order, that comes to a cycle, comes to this one
  pub record IsPathOf (m : Meaning K V) (k : K) (ks : List K) (path : List K) : Type 0 where
    pub before : List K
    pub key : K
    pub later : List K
    pub all : ks ≡ before ++ key ∷ later
    pub earlier : (q : K) → Has before q → (m.kind q ≡ Injected) ⊎ MayWaitFor k q
    pub found : IsPathAt k key path

module _ {K V : Type 0} (eq : K → K → Bool) (m : Meaning K V) (v : ℕ) (es : List (K × Stored K V)) where
  -- what a look-up of the key says
  abbrev pub says : K → Look K V
  says q = look m.is_transient (entry_at eq es q) v

  -- what is told when tasks are made of these keys, one after the other
  abbrev pub told_of : List K → List (Told K V)
  told_of [] = []
  told_of (q ∷ made) = told_by v q (says q) ++ told_of made

module _ {K V : Type 0} (eq : K → K → Bool) (m : Meaning K V) (v : ℕ) (made : List K) (ps : List (K × Share K (Held K V))) (d : DeskSeen K V) (es : List (K × Stored K V)) where
  -- tasks were made of these keys, in this order, by what look-ups say: each key's task; what was told; and the entries, of which those with a value
  -- that matches were seen. All other entries, and all recorded edges, are as before
  pub record MakesThese (born : ℕ) (qs : List (K × Share K (Held K V))) (e : DeskSeen K V) (fs : List (K × Stored K V)) : Type 0 where
    pub tasks : (q : K) → Has made q → task_at eq qs q ≡ Some (task_by v q born (says eq m v es q))
    pub told : e.events ≡ d.events ++ told_of eq m v es made
    pub entries : (q : K) → Has made q → entry_at eq fs q ≡ entry_by v (says eq m v es q) (entry_at eq es q)
    pub other_entries : (q : K) → (Has made q → ⊥) → entry_at eq fs q ≡ entry_at eq es q
    pub edges : (j q : K) → is_edge eq fs j q ≡ is_edge eq es j q

module _ {K V : Type 0} (eq : K → K → Bool) (m : Meaning K V) (v : ℕ) (a : Assigned K V) (ks : List K) (cells : Seen K V) (ps : List (K × Share K (Held K V))) (d : DeskSeen K V) (es : List (K × Stored K V)) (qs : List (K × Share K (Held K V))) (e : DeskSeen K V) (fs : List (K × Stored K V)) where
  -- the first key of the batch that comes to a cycle comes to this one: nothing is made, no entry changes, and the task that asks ends with just this
  -- cycle, as do all that ask for it, and so on
  pub record EndsByCycle : Type 0 where
    pub path : List K
    pub cycle : IsPathOf eq ps m a.name.key ks path
    pub ends : GivesUpAll eq v (Some path) a.name.key ps qs d e
    pub entries : fs ≡ es

  -- a task has to be made of the key: it stands in the batch, is not injected, and has no task, or one that was given up
  pub record NeedsTask (q : K) : Type 0 where
    pub among : Has ks q
    pub computed : m.kind q ≢ Injected
    pub free : IsFree (task_at eq ps q)

  -- so each key of the batch that is not injected has its task: one was made of each that needs one, in the order in which these first stand in the
  -- batch, and of no other; and no task changes beside these and the one that asks
  pub record MakesTasks : Type 0 where
    pub made : List K
    pub distinct : AreDistinct made
    pub needed : (q : K) → Has made q → NeedsTask q
    pub all : (q : K) → NeedsTask q → Has made q
    pub order : AreInOrder ks made
    pub these : MakesThese eq m v made ps d es (length d.events) qs e fs
    pub others : (q : K) → eq a.name.key q ≡ false → (Has made q → ⊥) → task_at eq qs q ≡ task_at eq ps q

  -- the key stands in the batch, is not injected, and its task has not ended
  pub record IsAwaited (q : K) : Type 0 where
    pub among : Has ks q
    pub computed : m.kind q ≢ Injected
    pub going : is_going (tasks_of eq qs q) ≡ true

  -- the task that asks waits for just the keys whose tasks have not ended, one at least; nothing else is asked, and no ask is withdrawn
  pub record WaitsFor : Type 0 where
    pub held : task_at eq qs a.name.key ≡ Some (held_of a (IsWaiting ks))
    pub awaited : List K
    pub some : (q : K) × Has awaited q
    pub each : (q : K) → Has awaited q → IsAwaited q
    pub all : (q : K) → IsAwaited q → Has awaited q
    pub asks : (q : K) (b : By K) → asks eq qs q b ≡ (asks eq ps q b || (list_any (λ k. eq k q) awaited && is_by eq (Tasked a.name.key) b))

  -- x is the answer to the key: the input of an injected key, or what its task has ended with
  abbrev pub IsAnswerTo : K → V → Type 0
  IsAnswerTo q x = ((m.kind q ≡ Injected) × (x ≡ cell_at eq m cells v q)) ⊎ (value_of (tasks_of eq qs q) ≡ Some x)

  -- all answers are there: the task that asks is ready again with them; and all that is asked stays
  pub record GoesOnWith : Type 0 where
    pub values : List V
    pub held : task_at eq qs a.name.key ≡ Some (held_of (answered_more a ks values) IsReady)
    pub answers : AllZip IsAnswerTo ks values
    pub asks : KeepsAsks eq ps qs

  -- what becomes of the batch
  abbrev pub IsBatchDone : Type 0
  IsBatchDone = EndsByCycle ⊎ (MakesTasks × WaitsFor) ⊎ (MakesTasks × GoesOnWith)
