-- What contracts see of the sources and sinks in memory.
use Rattle.std.specs.Prelude.{◌==◌, ℕ, Bool, List, Option, Some, None, if◌then◌else◌}
use Rattle.std.specs.List.{list_any}

-- a sink that never fails: the bytes that it kept, the room for them, and whether none went beyond
-- it
pub record Sure : Type 0 where
  pub bytes : List ℕ
  pub room : ℕ
  pub is_whole : Bool

-- the bytes that such a sink tells
abbrev pub told : Sure → Option (List ℕ)
told s = if s.is_whole then Some s.bytes else None

-- a source that fails at the calls whose numbers stand in `fails`: the bytes that are left, the
-- most bytes of one call, and how many calls and faults there were
pub record Feed : Type 0 where
  pub left : List ℕ
  pub piece : ℕ
  pub fails : List ℕ
  pub calls : ℕ
  pub faults : ℕ

-- a sink of that kind: the bytes that it took, and the room for them
pub record Fill : Type 0 where
  pub taken : List ℕ
  pub room : ℕ
  pub piece : ℕ
  pub fails : List ℕ
  pub calls : ℕ
  pub faults : ℕ

-- the number is in the list
abbrev pub is_among : ℕ → List ℕ → Bool
is_among n ns = list_any (λ m. m == n) ns
