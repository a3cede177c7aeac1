-- Transactions that close: their asks go one by one, and then the tasks that nobody asks for any more.
use Rattle.std.specs.Prelude.{◌≡◌, ℕ, Bool, true, false, cond, not, ◌&&◌, nat_eq, List, [], reverse, Some}
use Rattle.dice_key.specs.Meaning.{Meaning}
use Rattle.task_share.specs.Asked.{By, Promised, Tasked, is_by, IsDone}
use Rattle.task_share.specs.Seen.{Share, asks, asked_of}
use Rattle.injected.specs.Seen.{Seen}
use Rattle.journal.specs.declared.event.Told.{Told}
use Rattle.journal.specs.Events.{Asking, live_at}
use Rattle.versioned_graph.specs.Entries.{Stored}
use Rattle.core_laws.specs.Desk.{World}
use Rattle.dice_tasks.specs.Helds.{Held}
use Rattle.dice_tasks.specs.Hands.{DeskSeen, Working}
use Rattle.dice_tasks.specs.Endings.{AreTasked}
use Rattle.dice_tasks.specs.Entries.{EntriesStand}
use Rattle.dice_steps.specs.Cells.{CellsStand}
use Rattle.dice_core.specs.Sessions.{SessionsSeen, has_ask, Closing}

module _ {K V : Type 0} (eq : K → K → Bool) (m : Meaning K V) where
  -- the same as `AtHand`, but no transaction need be open at v any more
  pub record LeftHand (v : ℕ) (w : World K V) (owed : ℕ) (ps : List (K × Share K (Held K V))) (d : DeskSeen K V) (es : List (K × Stored K V)) (s : Seen K V) : Type 0 where
    pub working : Working eq m v [] w owed ps d
    pub told : d.ended ≡ []
    pub tasked : AreTasked eq ps
    pub done : IsDone (asked_of eq ps)
    pub entries : EntriesStand eq m (reverse d.events) es
    pub cells : CellsStand eq (reverse d.events) s

-- the asker is the promise of one of these asks
abbrev pub is_promise_of : {K : Type 0} → List ℕ → By K → Bool
is_promise_of xs (Promised i) = has_ask xs i
is_promise_of xs (Tasked k) = false

module _ {K V : Type 0} (eq : K → K → Bool) where
  -- each promise is a live ask of the key that it is kept at
  abbrev pub ArePromised : List (Told K V) → List (K × Share K (Held K V)) → Type 0
  ArePromised R ps = (k : K) (i : ℕ) → asks eq ps k (Promised i) ≡ true → (a : Asking K) × (live_at R i ≡ Some a) × (a.key ≡ k)

  -- one of the asks xs of the transaction t is taken out, with its promise; ys are left, and the sessions are u
  pub record TakesPromise (R : List (Told K V)) (by t : ℕ) (xs ys : List ℕ) (ps qs : List (K × Share K (Held K V))) (u : SessionsSeen K) : Type 0 where
    pub index : ℕ
    pub had : has_ask xs index ≡ true
    pub left : (q : ℕ) → has_ask ys q ≡ cond (nat_eq index q) false (has_ask xs q)
    pub closing : Closing R by t ys u
    pub asks : (q : K) (a : By K) → asks eq qs q a ≡ (asks eq ps q a && not (is_by eq (Promised index) a))

  -- the asks xs of the transaction t were all taken out, with their promises; the sessions are u
  pub record TakesPromises (R : List (Told K V)) (by t : ℕ) (xs : List ℕ) (ps qs : List (K × Share K (Held K V))) (u : SessionsSeen K) : Type 0 where
    pub closing : Closing R by t [] u
    pub asks : (q : K) (a : By K) → asks eq qs q a ≡ (asks eq ps q a && not (is_promise_of xs a))
