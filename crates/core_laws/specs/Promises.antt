-- The promises of a transaction, and a version that has no tasks.
use Rattle.std.specs.Prelude.{ℕ, Bool, false, eqb, List}
use Rattle.task_share.specs.Asked.{By, Promised, Tasked, Asked}
use Rattle.journal.specs.declared.event.Told.{Told}
use Rattle.journal.specs.Events.{is_for, live_at}

-- the asker is a promise that was made in the transaction t
abbrev pub is_promise_in : {K V : Type 0} → List (Told K V) → ℕ → By K → Bool
is_promise_in R t (Promised i) = is_for (λ a. eqb t a.opened) (live_at R i)
is_promise_in R t (Tasked k) = false

-- no tasks and no asks
abbrev pub nobody : {K : Type 0} → Asked K
nobody = record { live = λ q. false; asks = λ q a. false }
