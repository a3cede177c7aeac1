-- A task as it is kept, and what it stands for.
use Rattle.std.specs.Prelude.{◌≡◌, ℕ, List, length}
use Rattle.std.specs.Arc.{arc_value}
use Rattle.dice_jobs.specs.Jobs.{Name, Assigned, Waits, answered_more}
use Rattle.dice_jobs.specs.Jobs.{Work, Computes, Checks}
use Rattle.core_laws.specs.Tasks.{Phase, IsWaiting, Standing, Works, Ended, Task}
use Rattle.core_laws.specs.Tasks.{Outcome as Came, WithValue, WithCycle, WithNothing}
use Rattle.task_state.specs.declared.state.Outcome.{Outcome}
use Rattle.task_state.specs.declared.state.Outcome.TheVariants.{Value, Cycle, Lost}
use Rattle.task_state.specs.declared.state.TaskState.{TaskState}
use Rattle.task_state.specs.declared.state.TaskState.TheVariants as state

-- a task by its name, and where it stands
pub record Held (K V : Type 0) : Type 0 where
  pub name : Name K
  pub standing : Standing K V

module _ {K V : Type 0} where
  abbrev pub task_of : Held K V → Task K V
  task_of h = record { born = h.name.born; standing = h.standing }

  abbrev pub came : Outcome K V → Came K V
  came (Value x) = WithValue (arc_value x)
  came (Cycle p) = WithCycle (arc_value p)
  came Lost = WithNothing

  -- a task in this phase that does what the job is for
  abbrev pub works : Assigned K V → Phase K → Standing K V
  works a p = Works a.work p a.answered

  -- the state says what is done
  abbrev pub IsDoing : TaskState K V → Work K V → Type 0
  IsDoing (state.Checking s) w = (x : V) × (T : _) × (b : ℕ) × (w ≡ Checks x T b)
  IsDoing (state.Computing s) w = w ≡ Computes
  IsDoing (state.Ended o) w = ⊥

  -- a task that does this job, in this phase
  abbrev pub held_of : Assigned K V → Phase K → Held K V
  held_of a p = record { name = a.name; standing = works a p }

  -- a task that has ended so
  abbrev pub held_ended : Name K → Came K V → Held K V
  held_ended n o = record { name = n; standing = Ended o }

-- what a waiting task goes on with: what its job is for then, and the values that its batch was answered with
pub record Ahead (K V : Type 0) : Type 0 where
  pub job : Assigned K V
  pub values : List V

-- a task that waits for a batch goes on with this when the batch is answered
pub record FollowsOn {K V : Type 0} (h : Held K V) (n : Ahead K V) : Type 0 where
  pub waits : Waits K V
  pub held : h ≡ held_of waits.job (IsWaiting waits.keys)
  pub count : length n.values ≡ length waits.keys
  pub job : n.job ≡ answered_more waits.job waits.keys n.values
