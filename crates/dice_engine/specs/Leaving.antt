-- What a leaving does not touch.
use Rattle.std.specs.Prelude.{◌≡◌, ℕ, Bool, List, reverse, Some}
use Rattle.journal.specs.declared.event.Told.{Told}
use Rattle.journal.specs.Events.{Asking, decided, live_at, lost_in_epoch}

module _ {K V : Type 0} (eq : K → K → Bool) where
  -- the journal J became I: each ask that is live then was live before; and no key was decided, and none was lost
  pub record DecidesNothing (J I : List (Told K V)) : Type 0 where
    pub live : (i : ℕ) (a : Asking K) → live_at (reverse I) i ≡ Some a → live_at (reverse J) i ≡ Some a
    pub decided : (v : ℕ) (k : K) → decided eq (reverse I) v k ≡ decided eq (reverse J) v k
    pub lost : (v : ℕ) (k : K) → lost_in_epoch eq (reverse I) v k ≡ lost_in_epoch eq (reverse J) v k
