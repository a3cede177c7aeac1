-- Labels in commands.
use Rattle.std.proofs.Common.{◌≡◌, ◌≢◌, ◌↔◌, ◌<◌, ◌≤◌, ◌+◌, ◌-◌, ◌∙◌, sym, ap, refl, subst, ℕ, zero, suc, true, List, [], ◌∷◌, ◌++◌, length, length-append, take, drop, get_or, drop-cons, add-one, min, nat_eq, arith}
use Rattle.std.specs.List.{AllByRecursion, starts_with}
use Rattle.std.proofs.lemmas.List.{take-append-drop, take_rest}
use Rattle.buck_label.specs.Labels.{IsSomeLabel}
use Rattle.target_file.specs.Strings.{IsLocated, IsCommand, opener}

abbrev pub NoClose : List ℕ → Type 0
NoClose bs = AllByRecursion (λ b. b ≢ 41) bs

split_one : (p q s t : List ℕ) → NoClose p → NoClose q → p ++ 41 ∷ s ≡ q ++ 41 ∷ t → p ≡ q
split_one [] [] s t h k e = refl
split_one [] (c ∷ q) s t h k e = absurd (k.0 cc)
split_one (b ∷ p) [] s t h k e = absurd (h.0 cc)
split_one (b ∷ p) (c ∷ q) s t h k e = let d : p ++ 41 ∷ s ≡ q ++ 41 ∷ t = cc in let i = split_one p q s t h.1 k.1 d in cc

pub cut_close : (rest : List ℕ) (at : ℕ) → at < length rest → get_or rest at 0 ≡ 41 → rest ≡ take at rest ++ 41 ∷ drop (suc at) rest
cut_close rest at h g = sym (take-append-drop at rest) ∙ ap (λ (r : List ℕ). take at rest ++ r) (drop-cons rest at 0 h) ∙ ap (λ (n : ℕ). take at rest ++ n ∷ drop (suc at) rest) g

pub located_some : (rest : List ℕ) (at : ℕ) → at < length rest → get_or rest at 0 ≡ 41 → IsSomeLabel (take at rest) → IsLocated rest
located_some rest at h g l = record { label = take at rest; rest = drop (suc at) rest; text_is = cut_close rest at h g; is_label = l }

pub located_only : (rest : List ℕ) (at : ℕ) → at < length rest → get_or rest at 0 ≡ 41 → NoClose (take at rest) → ((text : List ℕ) → IsSomeLabel text → NoClose text) → IsLocated rest → IsSomeLabel (take at rest)
located_only rest at h g n law l =
    subst IsSomeLabel (split_one l.label (take at rest) l.rest (drop (suc at) rest) (law l.label l.is_label) n (sym l.text_is ∙ cut_close rest at h g)) l.is_label

close_in : (label r : List ℕ) (at : ℕ) → length label < at → NoClose (take at (label ++ 41 ∷ r)) → ⊥
close_in label r zero h n = absurd (omega arith)
close_in [] r (suc k) h n = n.0 refl
close_in (b ∷ label) r (suc k) h n = close_in label r k (omega arith) n.1

pub located_none : (rest : List ℕ) (at : ℕ) → min 514 (length rest) ≤ at → NoClose (take at rest) → ((text : List ℕ) → IsSomeLabel text → length text ≤ 513) → IsLocated rest → ⊥
located_none rest at h n law l =
    let k = law l.label l.is_label in
    let e : length rest ≡ length l.label + length (41 ∷ l.rest) = ap length l.text_is ∙ length-append l.label (41 ∷ l.rest) in
    close_in l.label l.rest at (omega arith) (subst (λ (x : List ℕ). NoClose (take at x)) l.text_is n)

abbrev pub FineAt : List ℕ → Type 0
FineAt rest = starts_with nat_eq rest opener ≡ true → IsLocated (drop 11 rest)

pub command_cons : (b : ℕ) (bs : List ℕ) → IsCommand (b ∷ bs) ↔ (FineAt (b ∷ bs) × IsCommand bs)
command_cons b bs = (λ h. h, λ h. h)

pub command_at : (bs : List ℕ) (i : ℕ) → i < length bs → IsCommand (drop i bs) ↔ (FineAt (drop i bs) × IsCommand (drop (i + 1) bs))
command_at bs i h =
    let e : drop i bs ≡ get_or bs i 0 ∷ drop (i + 1) bs = drop-cons bs i 0 h ∙ ap (λ (n : ℕ). get_or bs i 0 ∷ drop n bs) (sym (add-one i)) in
    subst (λ (x : List ℕ). IsCommand x ↔ (FineAt x × IsCommand (drop (i + 1) bs))) (sym e) (command_cons (get_or bs i 0) (drop (i + 1) bs))

pub command_step : (bs : List ℕ) (i : ℕ) → i < length bs → IsCommand (drop i bs) ↔ (FineAt (take (length bs - i) (drop i bs)) × IsCommand (drop (i + 1) bs))
command_step bs i h = subst (λ (x : List ℕ). IsCommand (drop i bs) ↔ (FineAt x × IsCommand (drop (i + 1) bs))) (sym (take_rest bs i)) (command_at bs i h)
