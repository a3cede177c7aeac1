-- How the ready tasks and those that are out lie in memory.
use Rattle.std.specs.Prelude.{◌<◌, ◌≤◌, ◌^◌, ℕ, List, length, map, take, drop}
use Rattle.std.specs.Arc.{arc_value}
use Rattle.dice_tasks.specs.declared.shelf.ReadyTask.{ReadyTask}
use Rattle.lists.specs.Lists.{AreDistinct}

-- a task by its version and key
abbrev pub place_of : {K : Type 0} → ReadyTask K → ℕ × K
place_of r = (r.version, arc_value r.key)

-- the ready tasks stand first, and then those that are out
abbrev pub ready_of : {K : Type 0} → ℕ → List (ReadyTask K) → List (ℕ × K)
ready_of n ks = map place_of (take n ks)

abbrev pub out_of : {K : Type 0} → ℕ → List (ReadyTask K) → List (ℕ × K)
out_of n ks = map place_of (drop n ks)

-- so many are ready, no task stands twice, and their number fits
pub record IsLaid {K : Type 0} (n : ℕ) (ks : List (ReadyTask K)) : Type 0 where
  pub bound : n ≤ length ks
  pub distinct : AreDistinct (map place_of ks)
  pub small : length ks < 2 ^ 64
