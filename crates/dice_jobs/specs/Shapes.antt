-- The parts of a job's assignment, as they are kept, and what they stand for.
use Rattle.std.specs.Prelude.{List, [], Option, Some, None}
use Rattle.std.specs.Arc.{arc_value}
use Rattle.std.specs.declared.sync.Arc.{Arc}
use Rattle.dice_key.specs.Meaning.{Answered}
use Rattle.dice_jobs.specs.Jobs.{Work, Computes, Checks}
use Rattle.dice_jobs.specs.declared.assignment.Earlier.{Earlier}
use Rattle.dice_jobs.specs.declared.assignment.Progress.{Progress}
use Rattle.dice_jobs.specs.declared.assignment.Progress.TheVariants as progress

-- the batches of a trace; none if there is no trace
abbrev pub batches_in : {K V A : Type 0} → Option (Arc (List (Answered K V)) A) → List (Answered K V)
batches_in None = []
batches_in (Some t) = arc_value t

-- if there is an earlier value, it is checked
abbrev pub work_of : {U K V R : Type 0} → Option (Earlier U K V R) → Work K V
work_of None = Computes
work_of (Some e) = Checks (arc_value e.value) (arc_value e.trace) e.base

-- what is done, and the batches that were answered so far
abbrev pub answers_in : {U K V R : Type 0} → Progress U K V R → List (Answered K V)
answers_in progress.Begins = []
answers_in (progress.Runs t) = arc_value t
answers_in (progress.Checks e t) = batches_in t

abbrev pub work_in : {U K V R : Type 0} → Progress U K V R → Work K V
work_in progress.Begins = Computes
work_in (progress.Runs t) = Computes
work_in (progress.Checks e t) = work_of (Some (arc_value e))
