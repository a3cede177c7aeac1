-- Lists side by side.
use Rattle.std.proofs.Common.{◌≡◌, ◌<◌, ◌+◌, ◌∙◌, ℕ, List, [], ◌∷◌, ◌++◌, length, map, take, get_or, subst}
use Rattle.std.proofs.lemmas.Option.{get_or_from_slice_get}
use Rattle.std.specs.List.{AllZip}
use Rattle.dice_engine.proofs.Listing.{zipped_more}

-- what holds of the one side through f holds of what f makes of it
pub zipped_map : {A B C : Type 0} (f : A → B) (R : B → C → Type 0) (xs : List A) (ys : List C) → AllZip (λ x y. R (f x) y) xs ys → AllZip R (map f xs) ys
zipped_map f R [] [] z = tt
zipped_map f R [] (y ∷ ys) z = absurd z
zipped_map f R (x ∷ xs) [] z = absurd z
zipped_map f R (x ∷ xs) (y ∷ ys) z = (z.0, zipped_map f R xs ys z.1)

-- two steps make one
pub zipped_on : {A B C : Type 0} (P : A → B → Type 0) (Q : B → C → Type 0) (R : A → C → Type 0) → ((x : A) (y : B) (z : C) → P x y → Q y z → R x z)
    → (xs : List A) (ys : List B) (zs : List C) → AllZip P xs ys → AllZip Q ys zs → AllZip R xs zs
zipped_on P Q R f [] [] [] p q = tt
zipped_on P Q R f [] [] (z ∷ zs) p q = absurd q
zipped_on P Q R f [] (y ∷ ys) zs p q = absurd p
zipped_on P Q R f (x ∷ xs) [] zs p q = absurd p
zipped_on P Q R f (x ∷ xs) (y ∷ ys) [] p q = absurd q
zipped_on P Q R f (x ∷ xs) (y ∷ ys) (z ∷ zs) p q = (f x y z p.0 q.0, zipped_on P Q R f xs ys zs p.1 q.1)

-- one side at another place
pub zipped_so : {A B : Type 0} (P Q : A → B → Type 0) → ((x : A) (y : B) → P x y → Q x y) → (xs : List A) (ys : List B) → AllZip P xs ys → AllZip Q xs ys
zipped_so P Q f [] [] p = tt
zipped_so P Q f [] (y ∷ ys) p = absurd p
zipped_so P Q f (x ∷ xs) [] p = absurd p
zipped_so P Q f (x ∷ xs) (y ∷ ys) p = (f x y p.0, zipped_so P Q f xs ys p.1)

-- what holds of the first elements, and of the one at this place, holds of one more
pub zipped_step : {A B : Type 0} (R : A → B → Type 0) (xs : List A) (ys : List B) (i : ℕ) (x : A) (y : B) → i < length xs → x ≡ get_or xs i x → AllZip R (take i xs) ys → R x y → AllZip R (take (i + 1) xs) (ys ++ y ∷ [])
zipped_step R xs ys i x y l is z r = zipped_more R xs ys i y l z (λ w e. subst (λ v. R v y) (is ∙ get_or_from_slice_get xs i w x e) r)
