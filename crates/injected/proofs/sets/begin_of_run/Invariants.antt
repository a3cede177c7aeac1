use Rattle.std.proofs.Common.{◌≡◌, ◌≤◌, ◌<◌, ℕ, true}
use Rattle.std.specs.Prelude.{slice_index_or}
use Rattle.injected.specs.Numbers.{names}
use Rattle.injected.proofs.sets.begin_of_run.Given as goal

-- the sets from the place that is reached on name the number
abbrev pub invariant-loop-begin : goal.invariant-loop-begin
invariant-loop-begin l = (l.begin ≤ l.fn.begun) × ((i : ℕ) (d : ℕ × ℕ) → l.begin ≤ i → i < l.fn.begun → names l.number (slice_index_or l.sets i d) ≡ true)

abbrev pub decreases-loop-begin : goal.decreases-loop-begin
decreases-loop-begin l = l.begin
