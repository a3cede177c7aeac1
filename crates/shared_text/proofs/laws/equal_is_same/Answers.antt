use Rattle.std.specs.Cmp.Lexicographic.{bytes_decides}
use Rattle.std.proofs.lemmas.Map.Lookups.{exact_bytes}
use Rattle.shared_text.proofs.laws.equal_is_same.Goals as goal

pub returns-clause-eq : goal.returns-clause-eq
returns-clause-eq c = λ x y e. (bytes_decides x y).0 e

pub returns-clause-cmp : goal.returns-clause-cmp
returns-clause-cmp c = exact_bytes
