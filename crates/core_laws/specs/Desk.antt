-- All versions, and what is counted over them.
use Rattle.std.specs.Prelude.{◌≡◌, ◌≤◌, ◌+◌, ◌*◌, ℕ, Bool, true, false, cond, eqb, List, [], ◌∷◌, ◌++◌, length, Option, Some, None}
use Rattle.dice_key.specs.Meaning.{Meaning}
use Rattle.task_share.specs.Asked.{Asked}
use Rattle.journal.specs.declared.event.Told.{Told}
use Rattle.journal.specs.Law.{IsLawfulBack}
use Rattle.core_laws.specs.Tasks.{IsReady, IsOut, IsWaiting, Standing, Works, Ended, Task, is_going}
use Rattle.core_laws.specs.Stands.{VersionStands, IsAtRest}
use Rattle.lists.specs.Lists.{AreDistinct, Has}

-- the tasks and the asks of each version
pub record World (K V : Type 0) : Type 0 where
  pub asked : ℕ → Asked K
  pub tasks : ℕ → K → Option (Task K V)

-- what is kept beside them: the ready tasks by version and key; how many are out, and how many are at work; how many events there is room for
pub record Desk (K : Type 0) : Type 0 where
  pub ready : List (ℕ × K)
  pub out : ℕ
  pub live : ℕ
  pub spare : ℕ

module _ {K V : Type 0} where
  abbrev pub ready_in : Standing K V → Bool
  ready_in (Works w IsReady A) = true
  ready_in (Works w IsOut A) = false
  ready_in (Works w (IsWaiting ks) A) = false
  ready_in (Ended o) = false

  abbrev pub out_in : Standing K V → Bool
  out_in (Works w IsReady A) = false
  out_in (Works w IsOut A) = true
  out_in (Works w (IsWaiting ks) A) = false
  out_in (Ended o) = false

  -- the same of a task that may not be there
  abbrev pub is_ready : Option (Task K V) → Bool
  is_ready None = false
  is_ready (Some t) = ready_in t.standing

  abbrev pub is_out : Option (Task K V) → Bool
  is_out None = false
  is_out (Some t) = out_in t.standing

  -- version v has these asks and tasks; all others are as in w
  abbrev pub with_version : ℕ → Asked K → (K → Option (Task K V)) → World K V → World K V
  with_version v s ts w = record { asked = λ n. cond (eqb n v) s (w.asked n); tasks = λ n. cond (eqb n v) ts (w.tasks n) }

-- these are exactly the things that pass the test, each once
pub record AreAll {X : Type 0} (test : X → Bool) (xs : List X) : Type 0 where
  pub passes : (x : X) → Has xs x → test x ≡ true
  pub found : (x : X) → test x ≡ true → Has xs x
  pub distinct : AreDistinct xs

-- n things pass the test
pub record IsCount {X : Type 0} (test : X → Bool) (n : ℕ) : Type 0 where
  pub all : List X
  pub are : AreAll test all
  pub count : length all ≡ n

module _ {K V : Type 0} (eq : K → K → Bool) (m : Meaning K V) where
  -- what holds while a call works on version v: the tasks W of v have ended, and their askers are still to be told; all other versions are at rest;
  -- the journal is lawful; the ready tasks are known, and the others counted; and there is room for two events for each task at work and for
  -- `owed` more
  pub record Stand (R : List (Told K V)) (v : ℕ) (W : List K) (w : World K V) (d : Desk K) (owed : ℕ) : Type 0 where
    pub lawful : IsLawfulBack eq m R
    pub here : VersionStands eq m R v W (w.asked v) (w.tasks v)
    pub there : (n : ℕ) → eqb n v ≡ false → IsAtRest eq m R n (w.asked n) (w.tasks n)
    pub ready : AreAll (λ (p : ℕ × K). is_ready (w.tasks p.0 p.1)) d.ready
    pub out : IsCount (λ (p : ℕ × K). is_out (w.tasks p.0 p.1)) d.out
    pub live : IsCount (λ (p : ℕ × K). is_going (w.tasks p.0 p.1)) d.live
    pub room : 2 * d.live + owed ≤ d.spare

  -- what holds between calls
  pub record Rests (R : List (Told K V)) (w : World K V) (d : Desk K) (owed : ℕ) : Type 0 where
    pub lawful : IsLawfulBack eq m R
    pub each : (n : ℕ) → IsAtRest eq m R n (w.asked n) (w.tasks n)
    pub ready : AreAll (λ (p : ℕ × K). is_ready (w.tasks p.0 p.1)) d.ready
    pub out : IsCount (λ (p : ℕ × K). is_out (w.tasks p.0 p.1)) d.out
    pub live : IsCount (λ (p : ℕ × K). is_going (w.tasks p.0 p.1)) d.live
    pub room : 2 * d.live + owed ≤ d.spare

-- a list follows a test: `was` and `is` say whether y passed before and passes now
pub record Loses {X : Type 0} (y : X) (xs ys : List X) : Type 0 where
  pub among : (x : X) → Has ys x → Has xs x × (y ≡ x → ⊥)
  pub others : (x : X) → Has xs x → (y ≡ x → ⊥) → Has ys x
  pub distinct : AreDistinct ys

abbrev pub ListTurns : {X : Type 0} → Bool → Bool → X → List X → List X → Type 0
ListTurns false false y xs ys = ys ≡ xs
ListTurns true true y xs ys = ys ≡ xs
ListTurns false true y xs ys = ys ≡ xs ++ y ∷ []
ListTurns true false y xs ys = Loses y xs ys

-- so does a count
abbrev pub CountTurns : Bool → Bool → ℕ → ℕ → Type 0
CountTurns false false n l = l ≡ n
CountTurns true true n l = l ≡ n
CountTurns false true n l = l ≡ n + 1
CountTurns true false n l = l + 1 ≡ n

-- what becomes of the desk when the task of k at v becomes o
pub record DeskTurns {K V : Type 0} (v : ℕ) (k : K) (was is : Option (Task K V)) (d e : Desk K) : Type 0 where
  pub ready : ListTurns (is_ready was) (is_ready is) (v, k) d.ready e.ready
  pub out : CountTurns (is_out was) (is_out is) d.out e.out
  pub live : CountTurns (is_going was) (is_going is) d.live e.live

-- the same tasks are ready, and as many are out and at work; the room may be another
pub record DeskStays {K : Type 0} (d e : Desk K) : Type 0 where
  pub ready : e.ready ≡ d.ready
  pub out : e.out ≡ d.out
  pub live : e.live ≡ d.live
