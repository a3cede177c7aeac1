-- The cycles with which tasks have ended.
use Rattle.std.specs.Prelude.{List, Option, Some, None}
use Rattle.core_laws.specs.Tasks.{Standing, Works, Ended, WithValue, WithCycle, WithNothing}
use Rattle.dice_tasks.specs.Helds.{Held}

module _ {K V : Type 0} where
  -- the cycle with which a task has ended
  abbrev pub path_in : Standing K V → Option (List K)
  path_in (Works w p A) = None
  path_in (Ended (WithValue x)) = None
  path_in (Ended (WithCycle p)) = Some p
  path_in (Ended WithNothing) = None

  -- the same of a task that may not be there
  abbrev pub path_with : Option (Held K V) → Option (List K)
  path_with None = None
  path_with (Some h) = path_in h.standing
