-- The cells of the commits of a journal.
use Rattle.std.specs.Prelude.{◌≡◌, Bool, List, length}
use Rattle.injected.specs.Seen.{Seen}
use Rattle.injected.specs.Inputs.{AreOf}
use Rattle.journal.specs.declared.event.Told.{Told}
use Rattle.journal.specs.Events.{commits_of}

module _ {K V : Type 0} (eq : K → K → Bool) where
  -- the cells are those of the commits of R, a journal backwards, and the newest version is their number
  pub record CellsStand (R : List (Told K V)) (s : Seen K V) : Type 0 where
    pub are : AreOf eq (commits_of R) s
    pub newest : s.last ≡ length (commits_of R)
