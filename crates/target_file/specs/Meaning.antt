-- What does not count in a call.
use Rattle.std.specs.Prelude.{◌↔◌, List}
use Rattle.target_file.specs.Calls.{Argument}
use Rattle.target_file.specs.Files.{attributes}
use Rattle.lists.specs.Lists.{AreDistinct, Has}

-- the same arguments, in any order
pub record AreSame (xs ys : List Argument) : Type 0 where
  pub each : (a : Argument) → Has xs a ↔ Has ys a
  pub once : AreDistinct (attributes xs)
  pub also_once : AreDistinct (attributes ys)
