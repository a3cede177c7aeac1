-- Steps that ask no batch, and what becomes of the tasks and the entries of their version.
use Rattle.std.specs.Prelude.{◌≡◌, ◌⊎◌, ℕ, Bool, true, false, cond, List, Some}
use Rattle.dice_key.specs.Meaning.{Meaning, Answered}
use Rattle.dice_jobs.specs.Jobs.{Name, Assigned, Stepped, Checks, Valued, Unchanged}
use Rattle.task_share.specs.Asked.{By, Promised, Tasked}
use Rattle.task_share.specs.Seen.{Share, task_at, asks}
use Rattle.injected.specs.Seen.{Seen, cell_at}
use Rattle.journal.specs.declared.event.Told.{Told}
use Rattle.journal.specs.declared.event.Told.TheVariants.{Keep, End}
use Rattle.versioned_graph.specs.Edges.{Records}
use Rattle.versioned_graph.specs.Entries.{Stored, entry_at, finished, written}
use Rattle.core_laws.specs.Tasks.{IsReady, IsOut, WithValue}
use Rattle.dice_tasks.specs.Helds.{Held, Ahead, held_of, held_ended}
use Rattle.dice_tasks.specs.Hands.{DeskSeen, KeepsHands, KeepsDeskRoom}
use Rattle.dice_steps.specs.Wokens.{AsksAlone, IsAnswered}

module _ {K V : Type 0} where
  -- a step ends the task of k at v with the value x, as this event tells: a run is done with x; or a check of x found all as it was at the base
  abbrev pub EndsWith : ℕ → K → Stepped K V → V → Told K V → Type 0
  EndsWith v k s x e = ((s.outcome ≡ Valued x) × (e ≡ End v k)) ⊎ ((s.outcome ≡ Unchanged) × (T : List (Answered K V)) × (b : ℕ) × (s.job.work ≡ Checks x T b) × (e ≡ Keep v k b))

module _ {K V : Type 0} (eq : K → K → Bool) (m : Meaning K V) (veq : V → V → Bool) where
  -- the value x of k at v was finished with the trace A, and no other entry changed; and if by this the entry of k came to have a tail, an edge to k
  -- from each key of A was recorded, and no other
  pub record IsFinished (cells : Seen K V) (v : ℕ) (k : K) (x : V) (A : List (Answered K V)) (es fs : List (K × Stored K V)) : Type 0 where
    pub entries : (q : K) → entry_at eq fs q ≡ cond (eq k q) (Some (written m veq (entry_at eq es k) (finished m veq (cell_at eq m cells) (entry_at eq es) v x A))) (entry_at eq es q)
    pub edges : Records eq m veq k (finished m veq (cell_at eq m cells) (entry_at eq es) v x A) es fs

module _ {K V : Type 0} (eq : K → K → Bool) (m : Meaning K V) where
  -- the task of k at v, of this name, has ended with x; the tasks that waited for k alone are ready with the answers to their batches, and all other
  -- tasks are as before; no task asks for k any more, and all else that is asked stays
  pub record EndsAndWakes (cells : Seen K V) (v : ℕ) (k : K) (x : V) (name : Name K) (ps qs : List (K × Share K (Held K V))) : Type 0 where
    pub ended : task_at eq qs k ≡ Some (held_ended name (WithValue x))
    pub woken : (j : K) → asks eq ps k (Tasked j) ≡ true → AsksAlone eq k ps j → (n : Ahead K V) × IsAnswered eq m cells v k x ps j n × (task_at eq qs j ≡ Some (held_of n.job IsReady))
    pub others : (j : K) → eq k j ≡ false → (asks eq ps k (Tasked j) ≡ true → AsksAlone eq k ps j → ⊥) → task_at eq qs j ≡ task_at eq ps j
    pub still_out : (j : K) (a : Assigned K V) → eq k j ≡ false → task_at eq ps j ≡ Some (held_of a IsOut) → task_at eq qs j ≡ Some (held_of a IsOut)
    pub was_out : (j : K) (a : Assigned K V) → task_at eq qs j ≡ Some (held_of a IsOut) → task_at eq ps j ≡ Some (held_of a IsOut)
    pub told : (j : K) → asks eq qs k (Tasked j) ≡ false
    pub elsewhere : (q : K) (a : By K) → eq k q ≡ false → asks eq qs q a ≡ asks eq ps q a
    pub promises : (q : K) (n : ℕ) → asks eq qs q (Promised n) ≡ asks eq ps q (Promised n)

-- nothing that is seen has changed: tasks and entries are as before, the desk but for more room
pub record IsRefused {K V : Type 0} (ps qs : List (K × Share K (Held K V))) (d e : DeskSeen K V) (es fs : List (K × Stored K V)) : Type 0 where
  pub tasks : qs ≡ ps
  pub hands : KeepsHands d e
  pub room : KeepsDeskRoom d e
  pub entries : fs ≡ es
