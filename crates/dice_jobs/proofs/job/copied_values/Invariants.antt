use Rattle.std.proofs.Common.{◌≡◌, take}
use Rattle.dep_recorder.specs.Recordings.{values_in}
use Rattle.dice_jobs.proofs.job.copied_values.Given as goal

-- the values so far
abbrev pub invariant-loop-value : goal.invariant-loop-value
invariant-loop-value g l = l.values ≡ values_in (take l.value-index l.pairs)
