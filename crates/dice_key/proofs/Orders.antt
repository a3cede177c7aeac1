-- Equality by an order.
use Rattle.std.specs.Prelude.{◌≡◌, Bool, true, refl}
use Rattle.std.specs.Ordering.{is_eq}
use Rattle.std.specs.declared.cmp.Ordering.{Ordering}
use Rattle.std.specs.declared.cmp.Ordering.TheVariants.{Less, Equal, Greater}
use Rattle.std.proofs.Common.{sym, ◌∙◌}
use Rattle.dice_key.specs.Lawful.{SameKeys, AreSame}

tied : (o : Ordering) → is_eq o ≡ true → o ≡ Equal
tied Less h = cc
tied Equal h = refl
tied Greater h = cc

-- keys that are equal are the same, if keys that compare equal are
pub equal_by_order : {K : Type 0} (eq : K → K → Bool) (cmp : K → K → Ordering) → ((x y : K) → eq x y ≡ is_eq (cmp x y)) → SameKeys cmp → AreSame eq
equal_by_order eq cmp matches same x y h = same x y (tied (cmp x y) (sym (matches x y) ∙ h))
