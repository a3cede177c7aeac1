-- What equality and order say of the things that keys and values are made of: those that are equal,
-- or compare equal, are the same.
use Rattle.std.specs.Prelude.{◌≡◌, ℕ, Bool, true, false, nat_eq, Some, None, Ok, Err, refl}
use Rattle.std.specs.Ordering.{nat_cmp, bool_cmp, ordering_then}
use Rattle.std.specs.Option.{option_eq}
use Rattle.std.specs.Result.{result_eq}
use Rattle.std.specs.Cmp.Lexicographic.{pointwise, slice_cmp, bytes_decides}
use Rattle.std.specs.declared.cmp.Ordering.{Ordering}
use Rattle.std.specs.declared.cmp.Ordering.TheVariants.{Equal}
use Rattle.std.proofs.Common.{ap}
use Rattle.std.proofs.Math.Bool.{beq}
use Rattle.std.proofs.lemmas.Bool.{eqb-true}
use Rattle.std.proofs.lemmas.Map.Lookups.{exact_pairs, exact_unsigned, exact_bytes}
use Rattle.dice_key.specs.Lawful.{SameKeys, AreSame}

-- by `==`: of values
pub same_number : AreSame nat_eq
same_number m n h = eqb-true m n h

pub same_bool : AreSame beq
same_bool true true h = refl
same_bool false false h = refl
same_bool true false h = cc
same_bool false true h = cc

pub same_text : AreSame (pointwise nat_eq)
same_text s t h = (bytes_decides s t).0 h

pub same_option : {X : Type 0} (eq : X → X → Bool) → AreSame eq → AreSame (option_eq eq)
same_option eq same None None h = refl
same_option eq same None (Some y) h = cc
same_option eq same (Some x) None h = cc
same_option eq same (Some x) (Some y) h = ap Some (same x y h)

pub same_result : {X E : Type 0} (eq : X → X → Bool) (eq_of_errors : E → E → Bool) → AreSame eq → AreSame eq_of_errors → AreSame (result_eq eq eq_of_errors)
same_result eq eq_of_errors same same_errors (Ok x) (Ok y) h = ap Ok (same x y h)
same_result eq eq_of_errors same same_errors (Ok x) (Err y) h = cc
same_result eq eq_of_errors same same_errors (Err x) (Ok y) h = cc
same_result eq eq_of_errors same same_errors (Err x) (Err y) h = ap Err (same_errors x y h)

-- by `cmp`: of keys
pub tied_numbers : SameKeys nat_cmp
tied_numbers = exact_unsigned

pub tied_bools : SameKeys bool_cmp
tied_bools false false h = refl
tied_bools false true h = cc
tied_bools true false h = cc
tied_bools true true h = refl

pub tied_texts : SameKeys (slice_cmp nat_cmp)
tied_texts = exact_bytes

-- a key that is made of two parts, the first of which is compared first
pub tied_parts : {X Y K : Type 0} (make : X → Y → K) (cmp : X → X → Ordering) (cmp_of_second : Y → Y → Ordering) → SameKeys cmp → SameKeys cmp_of_second
    → (a : X) (b : Y) (c : X) (d : Y) → ordering_then (cmp a c) (cmp_of_second b d) ≡ Equal → make a b ≡ make c d
tied_parts {X} {Y} make cmp cmp_of_second first second a b c d h = ap (λ (p : X × Y). make p.0 p.1) (exact_pairs cmp cmp_of_second first second (a, b) (c, d) h)

pub tied_two_numbers : {K : Type 0} (make : ℕ → ℕ → K) (a b c d : ℕ) → ordering_then (nat_cmp a c) (nat_cmp b d) ≡ Equal → make a b ≡ make c d
tied_two_numbers make = tied_parts make nat_cmp nat_cmp exact_unsigned exact_unsigned
