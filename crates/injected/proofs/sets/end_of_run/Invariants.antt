use Rattle.std.proofs.Common.{◌≡◌, ◌≤◌, ◌<◌, ℕ, ◌-◌, true, length}
use Rattle.std.specs.Prelude.{slice_index_or}
use Rattle.injected.specs.Numbers.{names}
use Rattle.injected.proofs.sets.end_of_run.Given as goal

-- the sets up to the place that is reached name the number
abbrev pub invariant-loop-end : goal.invariant-loop-end
invariant-loop-end l = (l.fn.begun ≤ l.end) × (l.end ≤ length l.sets) × ((i : ℕ) (d : ℕ × ℕ) → l.fn.begun ≤ i → i < l.end → names l.number (slice_index_or l.sets i d) ≡ true)

abbrev pub decreases-loop-end : goal.decreases-loop-end
decreases-loop-end l = length l.sets - l.end
