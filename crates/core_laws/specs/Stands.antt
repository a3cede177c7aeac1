-- What holds of the tasks of one version, and of what they came to. R is the journal read backwards.
use Rattle.std.specs.Prelude.{◌≡◌, ◌≢◌, ◌≤◌, ◌<◌, ◌⊎◌, ℕ, Bool, true, false, List, [], ◌∷◌, ◌++◌, length, Option, Some, None}
use Rattle.dice_key.specs.Meaning.{Meaning, Answered, Asks}
use Rattle.dice_key.specs.declared.universe.Kind.TheVariants.{Injected}
use Rattle.dice_model.specs.Eval.{HasValue}
use Rattle.dice_model.specs.Asks.{Goes, IsTrace, AsksFor, Reaches, AllTrue}
use Rattle.task_share.specs.Asked.{By, Promised, Tasked, Asked, HasNoCycle, IsDone}
use Rattle.journal.specs.declared.event.Told.{Told}
use Rattle.journal.specs.Law.{CycleStands}
use Rattle.journal.specs.Events.{Asking, ByValue, ByCycle, commits_of, opened_at, open_count, live_at, decided, asked_in_epoch, lost_in_epoch, is_running, is_base}
use Rattle.core_laws.specs.Tasks.{Phase, IsReady, IsOut, IsWaiting, Outcome, WithValue, WithCycle, WithNothing, Standing, Works, Ended, Task, is_going, is_computing, batch_of, value_of}
use Rattle.lists.specs.Lists.{Has}
use Rattle.dice_jobs.specs.Jobs.{Checks, Computes, Work}
use Rattle.dice_jobs.specs.Truths.{Follows}

module _ {K V : Type 0} (eq : K → K → Bool) (m : Meaning K V) where
  -- a value x of k that was looked at, with its trace T and its version b: b is a base, at which k comes to x by T; and x is not
  -- transient
  pub record WasSeen (R : List (Told K V)) (k : K) (x : V) (T : List (Answered K V)) (b : ℕ) : Type 0 where
    pub within : b ≤ length (commits_of R)
    pub base : is_base eq R b k ≡ true
    pub traced : IsTrace eq m (commits_of R) b k T x
    pub same : HasValue eq m (commits_of R) b k x
    pub lasts : m.is_transient x ≡ false

  -- an outcome is true, and the key was decided so
  abbrev pub OutcomeStands : List (Told K V) → ℕ → K → Outcome K V → Type 0
  OutcomeStands R v k (WithValue x) = HasValue eq m (commits_of R) v k x × (decided eq R v k ≡ Some ByValue)
  OutcomeStands R v k (WithCycle p) = CycleStands eq m (commits_of R) v k p × (decided eq R v k ≡ Some ByCycle)
  OutcomeStands R v k WithNothing = (lost_in_epoch eq R v k ≡ true) × (decided eq R v k ≡ None)

  -- a batch that is asked after the answers A: by a run it is the next one; by a check the next of the trace, when all answers so far are
  -- those of the trace
  pub record IsNextOf (T A : List (Answered K V)) (ks : List K) : Type 0 where
    pub batch : Answered K V
    pub later : List (Answered K V)
    pub trace_is : T ≡ A ++ batch ∷ later
    pub keys_are : batch.keys ≡ ks

  -- the batch that a task waits for is the next one
  abbrev pub AsksNext : ℕ → K → Work K V → List (Answered K V) → Phase K → Type 0
  AsksNext v k w A IsReady = Unit {0}
  AsksNext v k w A IsOut = Unit {0}
  AsksNext v k Computes A (IsWaiting ks) = m.next k A v ≡ Asks ks
  AsksNext v k (Checks x T b) A (IsWaiting ks) = IsNextOf T A ks

  -- what a task at work went through: a run goes by its answers, which are values at v; a check was answered with the values at v of the keys
  -- of its trace's first batches
  abbrev pub WorkStands : List (Told K V) → ℕ → K → Work K V → List (Answered K V) → Type 0
  WorkStands R v k Computes A = Goes eq m (commits_of R) v k [] A
  WorkStands R v k (Checks x T b) A = WasSeen R k x T b × Follows T A × AllTrue (HasValue eq m (commits_of R) v) A

  pub record AtWork (R : List (Told K V)) (v : ℕ) (k : K) (w : Work K V) (p : Phase K) (A : List (Answered K V)) : Type 0 where
    pub undecided : decided eq R v k ≡ None
    pub work : WorkStands R v k w A
    pub asks : AsksNext v k w A p

  abbrev pub IsStanding : List (Told K V) → ℕ → K → Standing K V → Type 0
  IsStanding R v k (Works w p A) = AtWork R v k w p A
  IsStanding R v k (Ended o) = OutcomeStands R v k o

  -- a task of k at v: k is not injected; v is no later than the newest version; some key that was asked for in this epoch reaches k; and
  -- where it stands is true
  pub record TaskStands (R : List (Told K V)) (v : ℕ) (k : K) (t : Task K V) : Type 0 where
    pub computed : m.kind k ≢ Injected
    pub within : v ≤ length (commits_of R)
    pub born : t.born ≤ length R
    pub once : K
    pub asked : asked_in_epoch eq R v once ≡ true
    pub reached : Reaches eq m (commits_of R) v once k
    pub standing : IsStanding R v k t.standing

  -- what holds at version v. W are tasks that have ended and whose askers are still to be told.
  pub record VersionStands (R : List (Told K V)) (v : ℕ) (W : List K) (s : Asked K) (ts : K → Option (Task K V)) : Type 0 where
    -- promises are live asks, and each live ask of a key that is not injected is a promise
    pub promised : (k : K) (i : ℕ) → s.asks k (Promised i) ≡ true → (a : Asking K) × (live_at R i ≡ Some a) × (opened_at R v a.opened ≡ true) × (a.key ≡ k)
    pub promises : (i : ℕ) (a : Asking K) → live_at R i ≡ Some a → opened_at R v a.opened ≡ true → m.kind a.key ≢ Injected → s.asks a.key (Promised i) ≡ true
    -- a task that asks for a key waits for a batch with it, and its own key asks that key
    pub waits : (d k : K) → s.asks d (Tasked k) ≡ true → AsksFor eq m (commits_of R) v k d
    pub waiting : (d k : K) → s.asks d (Tasked k) ≡ true → (ks : List K) × (batch_of (ts k) ≡ Some ks) × Has ks d
    -- what is waited for has not ended, or its askers are still to be told
    pub awaited : (d k : K) → s.asks d (Tasked k) ≡ true → (s.live d ≡ true) ⊎ Has W d
    pub no_cycle : HasNoCycle s
    -- a task that waits has an ask; each key of its batch is injected, or asked for, or has ended with a value
    pub stuck : (k : K) (ks : List K) → batch_of (ts k) ≡ Some ks → (d : K) × (s.asks d (Tasked k) ≡ true)
    pub batch : (k : K) (ks : List K) → batch_of (ts k) ≡ Some ks → (d : K) → Has ks d → (m.kind d ≡ Injected) ⊎ (s.asks d (Tasked k) ≡ true) ⊎ ((x : V) × (value_of (ts d) ≡ Some x))
    -- tasks
    pub live : (k : K) → s.live k ≡ is_going (ts k)
    pub each : (k : K) (t : Task K V) → ts k ≡ Some t → TaskStands R v k t
    pub running : (k : K) → is_running eq R v k ≡ is_computing (ts k)
    pub fresh : (k : K) → ts k ≡ None → 0 < open_count R v → decided eq R v k ≡ None

  -- and between the engine's calls: whoever is asked for has a task; whoever is at work is asked for; without an open transaction there is none
  pub record IsAtRest (R : List (Told K V)) (v : ℕ) (s : Asked K) (ts : K → Option (Task K V)) : Type 0 where
    pub stands : VersionStands R v [] s ts
    pub tasked : (k : K) (a : By K) → s.asks k a ≡ true → (t : Task K V) × (ts k ≡ Some t)
    pub wanted : IsDone s
    pub closed : open_count R v ≡ 0 → (k : K) → ts k ≡ None
