-- What a session is, and what it answers.
use Rattle.std.specs.Prelude.{◌≡◌, ◌⊎◌, ℕ, Bool, List, [], ◌∷◌, ◌++◌, length, Option, Some, None, IfSome, Result, Ok, Err}
use Rattle.std.specs.Arc.{arc_value}
use Rattle.dice_key.specs.Meaning.{Meaning}
use Rattle.dice_model.specs.Eval.{HasValue}
use Rattle.journal.specs.declared.event.Told.{Told}
use Rattle.journal.specs.Law.{CycleStands}
use Rattle.turnstile.specs.Events.{StartsWith}
use Rattle.dice_core.specs.Commits.{Fault, NotInjected, Twice, fault_of}
use Rattle.dice_core.specs.declared.commit.CommitRefusal.{CommitRefusal}
use Rattle.dice_engine.specs.Calls.{differing_from}
use Rattle.dice_session.specs.declared.refusal.CommitError.{CommitError}
use Rattle.dice_session.specs.declared.refusal.CommitError.TheVariants as error
use Rattle.dice_session.specs.declared.session.Found.{Found}
use Rattle.dice_session.specs.declared.session.Found.TheVariants as found

-- A session as its caller sees it: its commits, in order; the changes that were set since the last
-- one; and the events that it has seen of its engine's journal.
pub record SessionView (K V : Type 0) : Type 0 where
  pub commits : List (List (K × V))
  pub changes : List (K × V)
  pub events : List (Told K V)

module _ {K V : Type 0} where
  -- a session without commits, changes and events
  abbrev pub IsNew : SessionView K V → Type 0
  IsNew s = (s.commits ≡ []) × (s.changes ≡ []) × (s.events ≡ [])

  -- a key was set, and nothing else changes
  abbrev pub Sets : SessionView K V → K → V → SessionView K V → Type 0
  Sets s k x u = u ≡ record s { changes = s.changes ++ (k, x) ∷ [] }

  -- the same commits and changes, and perhaps more events
  pub record Rests (s u : SessionView K V) : Type 0 where
    pub commits : u.commits ≡ s.commits
    pub changes : u.changes ≡ s.changes
    pub events : StartsWith u.events s.events

  -- the commits, with one more of these changes, if there are any
  abbrev pub with_changes : List (List (K × V)) → List (K × V) → List (List (K × V))
  with_changes C [] = C
  with_changes C (p ∷ ps) = C ++ (p ∷ ps) ∷ []

module _ {K V : Type 0} (eq : K → K → Bool) (veq : V → V → Bool) (m : Meaning K V) where
  -- the commits after these changes were applied: those that differ are one more commit
  abbrev pub committed : List (List (K × V)) → List (K × V) → List (List (K × V))
  committed C ps = with_changes C (differing_from eq veq m C ps)

module _ {U K V R : Type 0} where
  -- the fault that an error names, if any
  abbrev pub fault_in : CommitError U K V R → Option (Fault K)
  fault_in (error.NotInjected k) = Some (NotInjected (arc_value k))
  fault_in (error.Twice k) = Some (Twice (arc_value k))
  fault_in error.NoMemory = None

  -- the changes that stay set after a commit: all if memory was refused, and otherwise none
  abbrev pub still_set : Result ℕ (CommitError U K V R) → List (K × V) → List (K × V)
  still_set (Ok v) ps = []
  still_set (Err (error.NotInjected k)) ps = []
  still_set (Err (error.Twice k)) ps = []
  still_set (Err error.NoMemory) ps = ps

  -- the session's result tells of the engine's: the same version, or the same fault, or that memory
  -- was refused
  abbrev pub IsOwned : Result ℕ (CommitRefusal U K V R) → Result ℕ (CommitError U K V R) → Type 0
  IsOwned (Ok v) (Ok w) = w ≡ v
  IsOwned (Ok v) (Err e) = ⊥
  IsOwned (Err e) (Ok w) = ⊥
  IsOwned (Err e) (Err f) = IfSome (fault_in f) (λ a. fault_of e ≡ Some a)

-- what a key came to: its value from nothing at the newest version, or a cycle that it reaches
-- there
module _ {U K V R : Type 0} (eq : K → K → Bool) (m : Meaning K V) (C : List (List (K × V))) (k : K) where
  abbrev pub IsFound : Found U K V R → Type 0
  IsFound (found.Value x) = HasValue eq m C (length C) k (arc_value x)
  IsFound (found.Cycle p) = CycleStands eq m C (length C) k (arc_value p)

-- what was read of a key: what its value from nothing holds; or nothing, since it reaches a cycle
-- or its value is of another kind
module _ {K V Out : Type 0} (eq : K → K → Bool) (m : Meaning K V) (C : List (List (K × V))) (k : K) (reads : V → Option Out) where
  abbrev pub IsRead : Option Out → Type 0
  IsRead (Some y) = (x : V) × HasValue eq m C (length C) k x × (reads x ≡ Some y)
  IsRead None = ((x : V) × HasValue eq m C (length C) k x × (reads x ≡ None)) ⊎ ((p : List K) × CycleStands eq m C (length C) k p)
