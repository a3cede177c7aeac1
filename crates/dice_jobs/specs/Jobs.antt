-- What a job is for, and what a step reports, without their places in memory.
use Rattle.std.specs.Prelude.{◌≡◌, ◌<◌, ℕ, Bool, List, [], ◌∷◌, ◌++◌, length, Option, Some, None}
use Rattle.dice_key.specs.Meaning.{Meaning, Answered, Running, Step, Asks, Ends}
use Rattle.dep_recorder.specs.Checks.{Finding, Wants, IsSame, HasChanged, finding, values_of, IsNextBatch, IsFirstChange}

-- the name of a job: the version and the key that it works for, and the length of the journal when the key's task was made there
pub record Name (K : Type 0) : Type 0 where
  pub version : ℕ
  pub key : K
  pub born : ℕ

-- what is done for the key: its value is computed; or an earlier value is checked, by its trace, which was last finished or seen
-- at this version, the base
pub data Work (K V : Type 0) : Type 0 where
  Computes : Work K V
  Checks : V → List (Answered K V) → ℕ → Work K V

-- a job: its name, the batches that were answered so far, and what is done
pub record Assigned (K V : Type 0) : Type 0 where
  pub name : Name K
  pub answered : List (Answered K V)
  pub work : Work K V

-- what comes of it: these keys are wanted; the key has come to this value; all that was checked is as it was; the answer to this
-- key has changed
pub data Outcome (K V : Type 0) : Type 0 where
  Wanting : List K → Outcome K V
  Valued : V → Outcome K V
  Unchanged : Outcome K V
  Changed : K → Outcome K V

-- a step: the job that it is of, and what came of it
pub record Stepped (K V : Type 0) : Type 0 where
  pub job : Assigned K V
  pub outcome : Outcome K V

-- a job between two steps: it waits for the answers to these keys
pub record Waits (K V : Type 0) : Type 0 where
  pub job : Assigned K V
  pub keys : List K

module _ {K V : Type 0} where
  abbrev pub of_move : Step K V → Outcome K V
  of_move (Asks ks) = Wanting ks
  of_move (Ends x) = Valued x

  abbrev pub of_finding : Finding K V → Outcome K V
  of_finding (Wants ks) = Wanting ks
  of_finding IsSame = Unchanged
  of_finding (HasChanged d x y) = Changed d

  -- where a run of the job stands
  abbrev pub stand_of : Assigned K V → Running K V
  stand_of a = record { key = a.name.key; version = a.name.version; answered = a.answered }

  -- the same job with one more batch answered
  abbrev pub answered_more : Assigned K V → List K → List V → Assigned K V
  answered_more a ks xs = record { name = a.name; answered = a.answered ++ record { keys = ks; values = xs } ∷ []; work = a.work }

  -- the same key, and the same batches answered, from which its value is computed
  abbrev pub computing : Assigned K V → Assigned K V
  computing a = record { name = a.name; answered = a.answered; work = Computes }

  -- the same key, and the same batches answered, by which an earlier value is checked
  abbrev pub checking : Assigned K V → V → List (Answered K V) → ℕ → Assigned K V
  checking a x T b = record { name = a.name; answered = a.answered; work = Checks x T b }

  -- the answers so far are those of the trace that is checked
  abbrev pub AreOfTrace : Work K V → List (Answered K V) → Type 0
  AreOfTrace Computes A = Unit {0}
  AreOfTrace (Checks x T b) A = (later : List (Answered K V)) × (T ≡ A ++ later)

  abbrev pub Agrees : Assigned K V → Type 0
  Agrees a = AreOfTrace a.work a.answered

  -- the job that a step leaves waiting, if it wants keys
  abbrev pub waiting_after : Assigned K V → Outcome K V → Option (Waits K V)
  waiting_after a (Wanting ks) = Some (record { job = a; keys = ks })
  waiting_after a (Valued x) = None
  waiting_after a Unchanged = None
  waiting_after a (Changed d) = None

  -- the outcome of a check of this trace, fed these answers, in words: it wants the batch after those that are as they were; or all
  -- are as they were; or the answer to this key is the first that changed
  abbrev pub Explains : List (Answered K V) → List (List V) → Outcome K V → Type 0
  Explains T fed (Wanting ks) = (0 < length ks) × IsNextBatch T fed ks
  Explains T fed (Valued x) = ⊥
  Explains T fed Unchanged = fed ≡ values_of T
  Explains T fed (Changed d) = (x : V) × (y : V) × IsFirstChange T fed d x y

  -- so it is if the work is a check
  abbrev pub IsExplained : Work K V → List (Answered K V) → Outcome K V → Type 0
  IsExplained Computes A o = Unit {0}
  IsExplained (Checks x T b) A o = Explains T (values_of A) o

module _ {K V : Type 0} (m : Meaning K V) where
  -- k asks these batches at v, one after the other, and each has a value for each of its keys
  abbrev pub AsksThese : K → ℕ → List (Answered K V) → Type 0
  AsksThese k v A = (before after : List (Answered K V)) (b : Answered K V) → A ≡ before ++ b ∷ after → (m.next k before v ≡ Asks b.keys) × (length b.values ≡ length b.keys)

module _ {K V : Type 0} (m : Meaning K V) (eq : V → V → Bool) where
  -- what comes of this work for a key at a version, after these answered batches: of a computation the key's next move; of a check
  -- what it finds when it is fed the answers
  abbrev pub comes : Work K V → Name K → List (Answered K V) → Outcome K V
  comes Computes n A = of_move (m.next n.key A n.version)
  comes (Checks x T b) n A = of_finding (finding eq T (values_of A))

  abbrev pub outcome_of : Assigned K V → Outcome K V
  outcome_of a = comes a.work a.name a.answered

  -- this step is the step of this job
  pub record IsStepOf (s : Stepped K V) (a : Assigned K V) : Type 0 where
    pub job : s.job ≡ a
    pub outcome : s.outcome ≡ outcome_of a
    pub explained : IsExplained a.work a.answered s.outcome
