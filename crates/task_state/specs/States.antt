-- The stage of a task, the same task in another stage, and what each state needs.
use Rattle.std.specs.Prelude.{Option, Some, None}
use Rattle.task_state.specs.declared.state.Stage.{Stage}
use Rattle.task_state.specs.declared.state.Stage.TheVariants.{Ready, Out, Waiting}
use Rattle.task_state.specs.declared.state.TaskState.{TaskState}
use Rattle.task_state.specs.declared.state.TaskState.TheVariants.{Checking, Computing, Ended}
use Rattle.task_state.specs.declared.state.Need.{Need}
use Rattle.task_state.specs.declared.state.Need.TheVariants.{Take, Return, Answers, Nothing}

module _ {K V : Type 0} where
  -- its stage, if it has not ended
  abbrev pub stage_of : TaskState K V → Option Stage
  stage_of (Checking s) = Some s
  stage_of (Computing s) = Some s
  stage_of (Ended o) = None

  -- the same work in another stage; what has ended stays
  abbrev pub with_stage : TaskState K V → Stage → TaskState K V
  with_stage (Checking s) t = Checking t
  with_stage (Computing s) t = Computing t
  with_stage (Ended o) t = Ended o

abbrev pub need_in : Stage → Need
need_in Ready = Take
need_in Out = Return
need_in Waiting = Answers

abbrev pub need_of : {K V : Type 0} → TaskState K V → Need
need_of (Checking s) = need_in s
need_of (Computing s) = need_in s
need_of (Ended o) = Nothing
