-- A set of pointers to keys, read without them.
use Rattle.std.proofs.Common.{◌≡◌, Bool, true, false, not, sym}

-- what an insertion answered, over whether the key was there
pub was_seen : (b x y : Bool) → b ≡ not x → b ≡ false → x ≡ y → y ≡ true
was_seen b true y a f e = sym e
was_seen b false y a f e = cc

pub was_new : (b x y : Bool) → b ≡ not x → b ≡ true → x ≡ y → y ≡ true → ⊥
was_new b true y a f e n = cc
was_new b false y a f e n = cc
