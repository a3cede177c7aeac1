-- What is made of a step that is given.
use Rattle.std.specs.Prelude.{◌≡◌, ◌⊎◌, ℕ, Bool, List, [], ◌∷◌, ◌++◌, Option, Some, None}
use Rattle.std.specs.List.{AllByRecursion}
use Rattle.dice_key.specs.Meaning.{Meaning, Answered}
use Rattle.dice_jobs.specs.Jobs.{Work, Checks, Assigned, Outcome, Stepped, Wanting, Valued, Unchanged, Changed, computing}
use Rattle.task_share.specs.Seen.{Share, task_at}
use Rattle.injected.specs.Seen.{Seen}
use Rattle.journal.specs.declared.event.Told.{Told}
use Rattle.journal.specs.declared.event.Told.TheVariants.{Start, Keep, End}
use Rattle.journal.specs.declared.event.Reason.TheVariants.{Differs}
use Rattle.versioned_graph.specs.Entries.{Stored}
use Rattle.core_laws.specs.Tasks.{IsReady, IsOut, Outcome as Ended}
use Rattle.dice_tasks.specs.Helds.{Held, held_of}
use Rattle.dice_tasks.specs.Hands.{DeskSeen}
use Rattle.dice_tasks.specs.Waitings.{IsTurned}
use Rattle.dice_steps.specs.Batches.{LeavesOut, IsOfMakes, TakesUp, ending_events}
use Rattle.dice_steps.specs.Finishings.{IsFinished, EndsAndWakes}
use Rattle.dice_steps.specs.Taken.{IsBatchDone}
use Rattle.dice_core.specs.Cores.{CoreSeen, Turned, IsWorkAt, IsJobOut}
use Rattle.dice_core.specs.declared.giving.Gave.{Gave}
use Rattle.dice_core.specs.declared.giving.Gave.TheVariants.{Taken, Stale}

-- the step that is handed back, if it is stale
abbrev pub stale_of : {U K V R : Type 0} → Gave U K V R → Option (Stepped K V)
stale_of Taken = None
stale_of (Stale s) = Some s

module _ {K V : Type 0} (v : ℕ) (k : K) where
  -- what is told of a step of k at v: its end by a value; that an earlier value is kept, from its base; that it is started, since an answer has
  -- changed; or what becomes of the batch that it asks
  abbrev pub IsToldBy : Work K V → Outcome K V → List (Told K V) → Type 0
  IsToldBy w (Valued x) es = es ≡ End v k ∷ []
  IsToldBy w Unchanged es = (x : V) × (T : List (Answered K V)) × (b : ℕ) × (w ≡ Checks x T b) × (es ≡ Keep v k b ∷ [])
  IsToldBy w (Changed d) es = (x : V) × (T : List (Answered K V)) × (b : ℕ) × (w ≡ Checks x T b) × (es ≡ Start v k (Differs b d) ∷ [])
  IsToldBy w (Wanting ks) es = AllByRecursion (IsOfMakes v ks) es ⊎ ((os : List (K × Ended K V)) × (ds : List K) × (es ≡ ending_events v os ds))

module _ {K V : Type 0} (eq : K → K → Bool) (v : ℕ) (s : Stepped K V) where
  -- the step is taken up: its job is out no more; no other job comes to be out, and all others that are out stay so or their tasks go; and all
  -- that is told is of tasks at v
  pub record Gives (ps qs : List (K × Share K (Held K V))) (d e : DeskSeen K V) : Type 0 where
    pub was : task_at eq ps s.job.name.key ≡ Some (held_of s.job IsOut)
    pub out : LeavesOut eq s.job.name.key ps qs
    pub home : (a : Assigned K V) → task_at eq qs s.job.name.key ≡ Some (held_of a IsOut) → ⊥
    pub events : List (Told K V)
    pub told : e.events ≡ d.events ++ events
    pub works : AllByRecursion (IsWorkAt v) events
    pub by : IsToldBy v s.job.name.key s.job.work s.outcome events

module _ {K V : Type 0} (eq : K → K → Bool) (m : Meaning K V) (veq : V → V → Bool) (v : ℕ) (s : Stepped K V) (cells : Seen K V) (ps qs : List (K × Share K (Held K V))) (es fs : List (K × Stored K V)) where
  -- the task of the step's key has ended with x, and the tasks that waited for it alone are ready; and the entry of the key is finished with x and with
  -- the answers of the step as its trace
  pub record EndsIn (x : V) : Type 0 where
    pub tasks : EndsAndWakes eq m cells v s.job.name.key x s.job.name ps qs
    pub entries : IsFinished eq m veq cells v s.job.name.key x s.job.answered es fs

  -- what becomes of the tasks and the entries by a step: its value ends its task; a check that found all as it was ends it with the value that was
  -- checked; one that found a change makes it compute, from the answers that the check has; and a batch is taken up
  abbrev pub IsTakenUp : DeskSeen K V → DeskSeen K V → Outcome K V → Type 0
  IsTakenUp d e (Valued x) = EndsIn x
  IsTakenUp d e Unchanged = (x : V) × (T : List (Answered K V)) × (b : ℕ) × (s.job.work ≡ Checks x T b) × EndsIn x
  IsTakenUp d e (Changed j) = IsTurned eq s.job.name.key (held_of s.job IsOut) (held_of (computing s.job) IsReady) ps qs × (fs ≡ es)
  IsTakenUp d e (Wanting ks) = TakesUp eq m v s.job ks ps d qs e × IsBatchDone eq m v s.job ks cells ps d es qs e fs

module _ {K V : Type 0} (eq : K → K → Bool) (m : Meaning K V) (veq : V → V → Bool) where
  -- the step is taken up among the tasks of its version
  abbrev pub GivesStep : Stepped K V → CoreSeen K V → CoreSeen K V → Type 0
  GivesStep s c d = Turned eq m s.job.name.version c.tables d.tables
      (λ ps qs. Gives eq s.job.name.version s ps qs c.desk d.desk)

  -- and of these tasks and of the entries becomes what it reports
  abbrev pub DoesStep : Stepped K V → CoreSeen K V → CoreSeen K V → Type 0
  DoesStep s c d = Turned eq m s.job.name.version c.tables d.tables
      (λ ps qs. IsTakenUp eq m veq s.job.name.version s c.cells ps qs c.entries d.entries
      c.desk d.desk s.outcome)

  -- the step is handed back as it is: its job was not out, and nothing changes
  abbrev pub HandsBack : Stepped K V → CoreSeen K V → CoreSeen K V → Stepped K V → Type 0
  HandsBack s c d t = (t ≡ s) × (IsJobOut eq c s.job → ⊥) × (d ≡ c)
