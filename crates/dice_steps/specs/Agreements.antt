-- When a check goes on without a comparison: the batch is of one key, and the value that the graph keeps of it is the key's value now and at the check's
-- base.
use Rattle.std.specs.Prelude.{◌≡◌, ℕ, Bool, true, List, [], ◌∷◌, Some}
use Rattle.std.specs.List.{AllZip}
use Rattle.dice_key.specs.Meaning.{Meaning, Answered}
use Rattle.dice_jobs.specs.Jobs.{Assigned, Waits, Checks, Agrees, answered_more}
use Rattle.task_share.specs.Asked.{Tasked}
use Rattle.task_share.specs.Seen.{Share, task_at, asks}
use Rattle.injected.specs.Seen.{Seen}
use Rattle.versioned_graph.specs.Entries.{Kept, Stored, entry_at}
use Rattle.core_laws.specs.Tasks.{IsWaiting}
use Rattle.dice_tasks.specs.Helds.{Held, held_of}
use Rattle.dice_steps.specs.Wokens.{IsAnswer}

module _ {K V : Type 0} where
  -- the job checks an earlier value of this base, and the batch is of this key alone
  pub record ChecksOne (a : Assigned K V) (ks : List K) (key : K) (base : ℕ) : Type 0 where
    pub alone : ks ≡ key ∷ []
    pub was : V
    pub trace : List (Answered K V)
    pub work : a.work ≡ Checks was trace base

  -- so it is with some key, and the ranges of the entry e have the base
  pub record HoldsAtBase (e : Kept K V) (a : Assigned K V) (ks : List K) : Type 0 where
    pub key : K
    pub base : ℕ
    pub checks : ChecksOne a ks key base
    pub holds : e.ranges base ≡ true

module _ {K V : Type 0} (eq : K → K → Bool) (es : List (K × Stored K V)) where
  -- so it is with the entry of the batch's key, which has the version v too
  pub record HoldsAtBoth (v : ℕ) (a : Assigned K V) (ks : List K) : Type 0 where
    pub entry : Kept K V
    pub at_base : HoldsAtBase entry a ks
    pub known : entry_at eq es at_base.key ≡ Some entry
    pub now : entry.ranges v ≡ true

  -- e is the entry of k, and its value is x
  pub record IsEntryOf (k : K) (x : V) (e : Kept K V) : Type 0 where
    pub known : entry_at eq es k ≡ Some e
    pub value : e.value ≡ x

module _ {K V : Type 0} (eq : K → K → Bool) (m : Meaning K V) (cells : Seen K V) (v : ℕ) (k : K) (x : V) (ps : List (K × Share K (Held K V))) (es : List (K × Stored K V)) where
  -- if the task of k ends with x, and the entry of k keeps x at the base of the check of j, which waits for one key, its answers are those of the trace
  abbrev pub AgreesIfKept : K → Type 0
  AgreesIfKept j = (w : Waits K V) (e : Kept K V) (ys : List V) → task_at eq ps j ≡ Some (held_of w.job (IsWaiting w.keys)) → IsEntryOf eq es k x e → HoldsAtBase e w.job w.keys → AllZip (IsAnswer eq m cells v k x ps) w.keys ys → Agrees (answered_more w.job w.keys ys)

  -- so it is with each that asks for k
  abbrev pub AllAgreeIfKept : Type 0
  AllAgreeIfKept = (j : K) → asks eq ps k (Tasked j) ≡ true → AgreesIfKept j
