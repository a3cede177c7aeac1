-- What those that still ask are answered after a call by which tasks go or are lost.
use Rattle.std.specs.Prelude.{◌≡◌, ◌⊎◌, ℕ, Bool, true, Some}
use Rattle.dice_key.specs.Meaning.{Meaning}
use Rattle.task_share.specs.Asked.{Leads}
use Rattle.task_share.specs.Seen.{asked_of}
use Rattle.journal.specs.Events.{Asking, opened_at, live_at}
use Rattle.dice_jobs.specs.Jobs.{Name}
use Rattle.dice_core.specs.Cores.{CoreSeen, ToNothing, past_of, table_at, poll_of}

module _ {K V : Type 0} (eq : K → K → Bool) (m : Meaning K V) where
  -- the key of each ask that is live in d has come to the same in d as in c
  abbrev pub AnswersStay : CoreSeen K V → CoreSeen K V → Type 0
  AnswersStay c d = (i v : ℕ) (a : Asking K) → live_at (past_of d) i ≡ Some a → opened_at (past_of d) v a.opened ≡ true
      → poll_of eq m d v a.key ≡ poll_of eq m c v a.key

  -- so has each, but those whose tasks led by waits to the task of n's key in c: these have come to nothing in d
  abbrev pub LosesWaitersOnly : Name K → CoreSeen K V → CoreSeen K V → Type 0
  LosesWaitersOnly n c d = (i v : ℕ) (a : Asking K) → live_at (past_of d) i ≡ Some a → opened_at (past_of d) v a.opened ≡ true
      → (poll_of eq m d v a.key ≡ poll_of eq m c v a.key)
      ⊎ ((v ≡ n.version) × Leads (asked_of eq (table_at c.tables v)) a.key n.key × (poll_of eq m d v a.key ≡ ToNothing))
