-- A set of texts as the test for them.
use Rattle.std.specs.Prelude.{ℕ, Bool, List, nat_eq}
use Rattle.std.specs.HashSet.{contains}
use Rattle.std.specs.Cmp.Lexicographic.{pointwise}
use Rattle.script.specs.declared.names.Names.{Names}

abbrev pub has : Names → List ℕ → Bool
has n q = contains (pointwise nat_eq) n.texts q
