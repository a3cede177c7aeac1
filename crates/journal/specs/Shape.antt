-- What contracts see of a journal.
use Rattle.std.specs.Prelude.{ℕ, List}
use Rattle.journal.specs.declared.event.Told.{Told}

-- its events, in order, and how many more it has room for
pub record Written (K V : Type 0) : Type 0 where
  pub events : List (Told K V)
  pub spare : ℕ
