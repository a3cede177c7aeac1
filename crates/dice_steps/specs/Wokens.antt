-- The tasks that wait for one key alone, and the answers to their batches when that key's task ends with a value.
use Rattle.std.specs.Prelude.{◌≡◌, ◌⊎◌, ℕ, Bool, true, false, List, map, Some}
use Rattle.std.specs.List.{AllZip}
use Rattle.dice_key.specs.Meaning.{Meaning}
use Rattle.dice_key.specs.declared.universe.Kind.TheVariants.{Injected}
use Rattle.dice_jobs.specs.Jobs.{Waits}
use Rattle.task_share.specs.Asked.{By, Promised, Tasked}
use Rattle.task_share.specs.Seen.{Share, task_at, is_live, asks}
use Rattle.injected.specs.Seen.{Seen, cell_at}
use Rattle.core_laws.specs.Tasks.{IsReady, IsWaiting, value_of}
use Rattle.dice_tasks.specs.Helds.{Held, Ahead, FollowsOn, held_of}
use Rattle.dice_tasks.specs.Hands.{DeskSeen, KeepsDesk, tasks_of}
use Rattle.dice_tasks.specs.Waitings.{Wakes}
use Rattle.lists.specs.Lists.{AreDistinct, Has}

module _ {K V : Type 0} (eq : K → K → Bool) where
  -- the task of j asks for the key k alone, or for another key too
  abbrev pub AsksAlone : K → List (K × Share K (Held K V)) → K → Type 0
  AsksAlone k ps j = (q : K) → asks eq ps q (Tasked j) ≡ true → eq k q ≡ true

  abbrev pub AsksMore : K → List (K × Share K (Held K V)) → K → Type 0
  AsksMore k ps j = (q : K) × (eq k q ≡ false) × (asks eq ps q (Tasked j) ≡ true)

module _ {K V : Type 0} (eq : K → K → Bool) (m : Meaning K V) where
  -- there is an answer to the key q when the task of k ends with a value: q is injected, or is k, or has a task that ended with a value
  abbrev pub HasAnswer : K → List (K × Share K (Held K V)) → K → Type 0
  HasAnswer k ps q = (m.kind q ≡ Injected) ⊎ (q ≡ k) ⊎ ((y : V) × (value_of (tasks_of eq ps q) ≡ Some y))

  -- y is that answer at version v, if the task of k ends with x: the input of an injected key; x, for k itself; what the task of q ended with
  abbrev pub IsAnswer : Seen K V → ℕ → K → V → List (K × Share K (Held K V)) → K → V → Type 0
  IsAnswer cells v k x ps q y = ((m.kind q ≡ Injected) × (y ≡ cell_at eq m cells v q)) ⊎ ((q ≡ k) × (y ≡ x)) ⊎ (value_of (tasks_of eq ps q) ≡ Some y)

  -- the task of j waits for a batch, and there is an answer to each of its keys
  pub record WaitsAlone (k : K) (ps : List (K × Share K (Held K V))) (j : K) : Type 0 where
    pub waits : Waits K V
    pub held : task_at eq ps j ≡ Some (held_of waits.job (IsWaiting waits.keys))
    pub answers : (q : K) → Has waits.keys q → HasAnswer k ps q

  -- so does each task that asks for k alone
  abbrev pub HasAnswers : K → List (K × Share K (Held K V)) → Type 0
  HasAnswers k ps = (j : K) → asks eq ps k (Tasked j) ≡ true → AsksAlone eq k ps j → WaitsAlone k ps j

  -- the task of j goes on with the answers to its batch
  pub record IsAnswered (cells : Seen K V) (v : ℕ) (k : K) (x : V) (ps : List (K × Share K (Held K V))) (j : K) (n : Ahead K V) : Type 0 where
    pub held : Held K V
    pub was : task_at eq ps j ≡ Some held
    pub follows : FollowsOn held n
    pub answers : AllZip (IsAnswer cells v k x ps) follows.waits.keys n.values

  -- these are exactly the tasks that ask for k alone, and each goes on with the answers to its batch
  pub record AreWoken (cells : Seen K V) (v : ℕ) (k : K) (x : V) (ps : List (K × Share K (Held K V))) (ys : List (Wakes K V)) : Type 0 where
    pub version : (y : Wakes K V) → Has ys y → y.place.0 ≡ v
    pub asking : (y : Wakes K V) → Has ys y → asks eq ps k (Tasked y.place.1) ≡ true
    pub only : (y : Wakes K V) → Has ys y → AsksAlone eq k ps y.place.1
    pub answered : (y : Wakes K V) → Has ys y → IsAnswered cells v k x ps y.place.1 y.ahead
    pub distinct : AreDistinct (map (λ (y : Wakes K V). y.place.1) ys)
    pub others : (j : K) → asks eq ps k (Tasked j) ≡ true → ((y : Wakes K V) × Has ys y × (y.place.1 ≡ j)) ⊎ AsksMore eq k ps j

module _ {K V : Type 0} (eq : K → K → Bool) where
  -- these tasks, which waited for k, are ready with what they go on with, and all other tasks are as before; tasks may have ceased to ask for k; all
  -- else that is asked stays
  pub record WakesSo (k : K) (ys : List (Wakes K V)) (ps qs : List (K × Share K (Held K V))) (d e : DeskSeen K V) : Type 0 where
    pub woken : (y : Wakes K V) → Has ys y → task_at eq qs y.place.1 ≡ Some (held_of y.ahead.job IsReady)
    pub others : (q : K) → ((y : Wakes K V) → Has ys y → y.place.1 ≡ q → ⊥) → task_at eq qs q ≡ task_at eq ps q
    pub live : (q : K) → is_live eq qs q ≡ is_live eq ps q
    pub elsewhere : (q : K) (a : By K) → eq k q ≡ false → asks eq qs q a ≡ asks eq ps q a
    pub promises : (q : K) (n : ℕ) → asks eq qs q (Promised n) ≡ asks eq ps q (Promised n)
    pub fewer : (q : K) (a : By K) → asks eq qs q a ≡ true → asks eq ps q a ≡ true
    pub desk : KeepsDesk d e
