-- A task's parts in memory, and what they stand for.
use Rattle.std.specs.Prelude.{◌≡◌, Some}
use Rattle.std.specs.Arc.{arc_value}
use Rattle.dice_jobs.specs.Jobs.{Name, Assigned}
use Rattle.core_laws.specs.Tasks.{Phase, IsReady, IsOut, IsWaiting, Standing, Ended}
use Rattle.task_state.specs.declared.state.Stage.TheVariants.{Ready, Out, Waiting}
use Rattle.task_state.specs.declared.state.TaskState.{TaskState}
use Rattle.task_state.specs.States.{stage_of}
use Rattle.dice_tasks.specs.Helds.{works, came, IsDoing}
use Rattle.dice_tasks.specs.declared.task.Kept.{Kept}
use Rattle.dice_tasks.specs.declared.task.Kept.TheVariants as kept
use Rattle.dice_tasks.specs.declared.task.Load.{Load}
use Rattle.dice_tasks.specs.declared.task.Load.TheVariants.{Job, Away, Parked}
use Rattle.dice_tasks.specs.declared.task.Spare.{Spare}
use Rattle.dice_tasks.specs.declared.task.Work.{Work}

module _ {U K V R : Type 0} where
  -- how far the work is
  abbrev pub phase_of : Load U K V R → Phase K
  phase_of (Job j) = IsReady
  phase_of Away = IsOut
  phase_of (Parked p) = IsWaiting p.keys

  -- where the task stands
  abbrev pub standing_of : Kept U K V R → Standing K V
  standing_of (kept.Works w) = works w.value.own (phase_of w.value.load)
  standing_of (kept.Ended o) = Ended (came o)

  -- what is at hand of the job is for this, and the state says how far it is
  abbrev pub IsLoaded : Assigned K V → Load U K V R → TaskState K V → Type 0
  IsLoaded a (Job j) s = (j ≡ a) × (stage_of s ≡ Some Ready)
  IsLoaded a Away s = stage_of s ≡ Some Out
  IsLoaded a (Parked p) s = (p.job ≡ a) × (stage_of s ≡ Some Waiting)

  -- both copies are of the key
  abbrev pub AreCopies : K → Spare U K V R → Type 0
  AreCopies k s = (arc_value s.first ≡ k) × (arc_value s.second ≡ k)

  -- the work is for the task of this name, and the state says so
  pub record IsWork (n : Name K) (w : Work U K V R) : Type 0 where
    pub name : w.own.name ≡ n
    pub loaded : IsLoaded w.own w.load w.state
    pub doing : IsDoing w.state w.own.work
    pub spare : AreCopies n.key w.spare

  -- what the task of this name keeps
  abbrev pub IsKept : Name K → Kept U K V R → Type 0
  IsKept n (kept.Works w) = IsWork n w.value
  IsKept n (kept.Ended o) = Unit {0}
