-- What may be there, and tests of it.
use Rattle.std.proofs.Common.{◌≡◌, Bool, true, false, not, Option, Some, None, is_some, refl, sym, ◌∙◌}
use Rattle.std.specs.Option.{option_and_then}

module _ {X : Type 0} where
  pub is_missing : (o : Option X) → is_some o ≡ false → o ≡ None
  is_missing None e = refl
  is_missing (Some x) e = cc

pub some_same : {X : Type 0} {x y : X} → Some x ≡ Some y → x ≡ y
some_same e = cc

pub none_some : {X : Type 0} {x : X} → None ≡ Some x → ⊥
none_some e = cc

module _ {X Y : Type 0} (f : X → Option Y) where
  pub chained : (o : Option X) (y : Y) → option_and_then f o ≡ Some y → (x : X) × (o ≡ Some x) × (f x ≡ Some y)
  chained None y e = cc
  chained (Some x) y e = (x, refl, e)

-- what a set answers to a key that is put into it: true if it was not there
pub was_new : (b x : Bool) → x ≡ not b → x ≡ true → b ≡ false
was_new true x e t = let z : true ≡ not true = sym t ∙ e in cc
was_new false x e t = refl

pub was_seen : (b x : Bool) → x ≡ not b → x ≡ false → b ≡ true
was_seen false x e t = let z : false ≡ not false = sym t ∙ e in cc
was_seen true x e t = refl
