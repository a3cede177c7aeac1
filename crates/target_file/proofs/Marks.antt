-- Marks tell files apart; and what a hasher is fed of targets as they lie in memory.
use Rattle.std.proofs.Common.{◌≡◌, ◌++◌, ◌∙◌, ℕ, Bool, true, false, nat_eq, List, [], ◌∷◌, map, refl, sym, ap}
use Rattle.std.proofs.lemmas.Bool.{eqb-true}
use Rattle.std.proofs.lemmas.List.{length-map}
use Rattle.std.specs.List.{flat_map}
use Rattle.std.specs.Hash as fed
use Rattle.target_file.specs.Targets.{Located, same_file}
use Rattle.target_file.specs.Laws.{same_files}
use Rattle.target_file.specs.Marks.{mark_of}

-- files with two marks are not the same
pub marked_apart : (a b : ℕ) (x y : List Located) → a ≡ mark_of x → b ≡ mark_of y → (a ≡ b → ⊥) → nat_eq a b ≡ same_file x y
marked_apart a b x y p q n = marks_differ (nat_eq a b) refl ∙ sym (files_differ (same_file x y) refl)
  where
    marks_differ : (t : Bool) → nat_eq a b ≡ t → nat_eq a b ≡ false
    marks_differ true e = absurd (n (eqb-true a b e))
    marks_differ false e = e

    files_differ : (t : Bool) → same_file x y ≡ t → same_file x y ≡ false
    files_differ true e = absurd (n (p ∙ (ap mark_of (same_files x y e) ∙ sym q)))
    files_differ false e = e

-- a list is fed as what its items are seen as
fed_items : {A B : Type 0} (f : A → B) (F : B → List (List ℕ)) (xs : List A) → flat_map (λ x. F (f x)) xs ≡ flat_map F (map f xs)
fed_items f F [] = refl
fed_items f F (x ∷ xs) = ap (λ ys. F (f x) ++ ys) (fed_items f F xs)

pub seen_fed : {A B : Type 0} (f : A → B) (F : B → List (List ℕ)) (xs : List A) → fed.slice (λ x. F (f x)) xs ≡ fed.slice F (map f xs)
seen_fed f F xs = λ i. fed.usize (sym (length-map xs f) i) ++ fed_items f F xs i
