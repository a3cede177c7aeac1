-- Tasks without pointers.
use Rattle.std.specs.Prelude.{ℕ, Bool, true, false, List, Option, Some, None}
use Rattle.dice_key.specs.Meaning.{Answered}
use Rattle.dice_jobs.specs.Jobs.{Checks, Computes, Work}

-- how far the work of a task is: it can be taken; it was taken; it waits for the answers to this batch
pub data Phase (K : Type 0) : Type 0 where
  IsReady : Phase K
  IsOut : Phase K
  IsWaiting : List K → Phase K

-- how a task ended: with the value of its key, with a cycle that its key reaches, or given up since no memory was left
pub data Outcome (K V : Type 0) : Type 0 where
  WithValue : V → Outcome K V
  WithCycle : List K → Outcome K V
  WithNothing : Outcome K V

-- where a task stands: at work, with the batches that were answered so far; or ended
pub data Standing (K V : Type 0) : Type 0 where
  Works : Work K V → Phase K → List (Answered K V) → Standing K V
  Ended : Outcome K V → Standing K V

-- a task, and how long the journal was when it was made
pub record Task (K V : Type 0) : Type 0 where
  pub born : ℕ
  pub standing : Standing K V

module _ {K V : Type 0} where
  -- a task has not ended
  abbrev pub goes_on : Standing K V → Bool
  goes_on (Works w p A) = true
  goes_on (Ended o) = false

  abbrev pub computes : Standing K V → Bool
  computes (Works Computes p A) = true
  computes (Works (Checks x T b) p A) = false
  computes (Ended o) = false

  abbrev pub waits_for : Standing K V → Option (List K)
  waits_for (Works w IsReady A) = None
  waits_for (Works w IsOut A) = None
  waits_for (Works w (IsWaiting ks) A) = Some ks
  waits_for (Ended o) = None

  abbrev pub value_in : Standing K V → Option V
  value_in (Works w p A) = None
  value_in (Ended (WithValue x)) = Some x
  value_in (Ended (WithCycle p)) = None
  value_in (Ended WithNothing) = None

  -- the same of a task that may not be there
  abbrev pub is_going : Option (Task K V) → Bool
  is_going None = false
  is_going (Some t) = goes_on t.standing

  abbrev pub is_computing : Option (Task K V) → Bool
  is_computing None = false
  is_computing (Some t) = computes t.standing

  -- the batch that a task waits for, if it waits
  abbrev pub batch_of : Option (Task K V) → Option (List K)
  batch_of None = None
  batch_of (Some t) = waits_for t.standing

  -- the value that a task ended with
  abbrev pub value_of : Option (Task K V) → Option V
  value_of None = None
  value_of (Some t) = value_in t.standing
