-- What a typed front says of keys and values.
use Rattle.std.specs.Prelude.{◌≡◌, ℕ, List, Option, IsSome}
use Rattle.dice_key.specs.Meaning.{Meaning, Answered, Ends}

-- the absent value of the key, and each value that it is done with, hold something that the front
-- reads
pub record ValuesAreOf {K V Out : Type 0} (m : Meaning K V) (k : K) (reads : V → Option Out) : Type 0 where
  pub absent : IsSome (reads (m.absent k))
  pub ends : (A : List (Answered K V)) (v : ℕ) (x : V) → m.next k A v ≡ Ends x → IsSome (reads x)
