-- The hash that is kept beside a text.
use Rattle.std.specs.Prelude.{◌≡◌, ℕ, List, IsTrue, nat_eq}
use Rattle.std.specs.Cmp.Lexicographic.{pointwise, bytes_decides}
use Rattle.std.specs.Hash as fed
use Rattle.std.specs.Hash.DefaultHasher as sip
use Rattle.std.proofs.Common.{ap}

abbrev pub hash_of : List ℕ → ℕ
hash_of bytes = sip.finish (sip.write sip.initial bytes)

-- equal texts are hashed alike
pub hash_of_equal : (x y : List ℕ) → IsTrue (pointwise nat_eq x y) → fed.u64 (hash_of x) ≡ fed.u64 (hash_of y)
hash_of_equal x y e = ap (λ t. fed.u64 (hash_of t)) ((bytes_decides x y).0 e)
