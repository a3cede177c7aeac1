-- What one step does to the tasks and the asks of a version.
use Rattle.std.specs.Prelude.{◌≡◌, ◌≢◌, ◌⊎◌, Bool, true, cond, not, ◌&&◌, ◌||◌, List, [], ◌∷◌, ◌++◌, length, map, Option}
use Rattle.dice_key.specs.Meaning.{Answered}
use Rattle.task_share.specs.Asked.{By, Tasked, Asked, is_by}
use Rattle.core_laws.specs.Tasks.{Task}
use Rattle.lists.specs.Lists.{Has}

module _ {K V : Type 0} (eq : K → K → Bool) where
  -- the task of k is this, or none; all other tasks stay
  abbrev pub Puts : K → Option (Task K V) → (K → Option (Task K V)) → (K → Option (Task K V)) → Type 0
  Puts k o ts us = (q : K) → us q ≡ cond (eq k q) o (ts q)

module _ {K : Type 0} (eq : K → K → Bool) where
  -- the same asks
  abbrev pub SameAsks : Asked K → Asked K → Type 0
  SameAsks s u = (q : K) (a : By K) → u.asks q a ≡ s.asks q a

  -- the same keys live
  abbrev pub SameLives : Asked K → Asked K → Type 0
  SameLives s u = (q : K) → u.live q ≡ s.live q

  -- k lives or not, as b says; all other keys as they did
  abbrev pub Lives : K → Bool → Asked K → Asked K → Type 0
  Lives k b s u = (q : K) → u.live q ≡ cond (eq k q) b (s.live q)

  -- one asker more
  abbrev pub Joins : K → By K → Asked K → Asked K → Type 0
  Joins k b s u = (q : K) (a : By K) → u.asks q a ≡ (s.asks q a || (eq k q && is_by eq b a))

  -- one asker fewer
  abbrev pub Leaves : K → By K → Asked K → Asked K → Type 0
  Leaves k b s u = (q : K) (a : By K) → u.asks q a ≡ (s.asks q a && not (eq k q && is_by eq b a))

  -- the asks of the task of k are withdrawn
  abbrev pub Withdraws : K → Asked K → Asked K → Type 0
  Withdraws k s u = (q : K) (a : By K) → u.asks q a ≡ (s.asks q a && not (is_by eq (Tasked k) a))

  -- the task of k asks for these keys, beside what it asks for already
  pub record Parks (k : K) (ds : List K) (s u : Asked K) : Type 0 where
    pub kept : (q : K) (a : By K) → s.asks q a ≡ true → u.asks q a ≡ true
    pub asked : (d : K) → Has ds d → u.asks d (Tasked k) ≡ true
    pub only : (q : K) (a : By K) → u.asks q a ≡ true → (s.asks q a ≡ true) ⊎ (Has ds q × (a ≡ Tasked k))

-- A has answers to the first batches of the trace T: those before the last batch are as in T, and in the last batch d is the first key whose
-- answer differs
pub record ChangesFirst {K V : Type 0} (T A : List (Answered K V)) (d : K) : Type 0 where
  pub before : List (Answered K V)
  pub batch : Answered K V
  pub later : List (Answered K V)
  pub trace_is : T ≡ before ++ batch ∷ later
  pub answers : List V
  pub answered : map (λ a. a.values) A ≡ map (λ b. b.values) before ++ answers ∷ []
  pub keys_before : List K
  pub keys_later : List K
  pub same : List V
  pub was_later : List V
  pub now_later : List V
  pub was : V
  pub now : V
  pub keys_are : batch.keys ≡ keys_before ++ d ∷ keys_later
  pub values_are : batch.values ≡ same ++ was ∷ was_later
  pub answers_are : answers ≡ same ++ now ∷ now_later
  pub counted : length keys_before ≡ length same
  pub changed : was ≢ now
