-- The words of a line, and its end.
use Rattle.std.proofs.Common.{◌≡◌, ◌↔◌, ◌∙◌, ◌<◌, ◌≤◌, ◌+◌, ◌-◌, subst, sym, ap, refl, inl, inr, ℕ, Bool, true, false, List, [], ◌∷◌, take, drop, length, suc, arith, nat_eq, get_or}
use Rattle.std.proofs.lemmas.List.{take_rest, drop_more, drop_all}
use Rattle.std.proofs.Common.{None}
use Rattle.script.specs.Faults.{form_of}
use Rattle.script.specs.Lines.{before, is_name_byte, AreNameBytes, words, split_byte, front_word}
use Rattle.std.proofs.lemmas.Bool.{cases_Bool}
use Rattle.std.specs.Cmp.{unsigned_Decides}

-- the first word ends at the first space
pub first_word : (bs : List ℕ) → before 32 bs < length bs → words bs ≡ take (before 32 bs) bs ∷ words (drop (before 32 bs + 1) bs)
first_word [] h = absurd (omega arith)
first_word (b ∷ bs) h = elim (cases_Bool (nat_eq b 32)) [
  | inl t ↦ rw t refl
  | inr f ↦ let k : before 32 bs < length bs = let g : before 32 bs + 1 < length (b ∷ bs) = rw f at h in omega arith in
      let e : suc (before 32 bs + 1) ≡ before 32 bs + 1 + 1 = omega arith in
      let d : suc (before 32 bs) ≡ before 32 bs + 1 = omega arith in
      rw f (ap (front_word b) (first_word bs k) ∙ ap (λ (n : ℕ). take n (b ∷ bs) ∷ words (drop (before 32 bs + 1) bs)) d ∙ ap (λ (n : ℕ). take (before 32 bs + 1) (b ∷ bs) ∷ words (drop n (b ∷ bs))) e)
]

-- with no space all is one word
pub only_word : (bs : List ℕ) → before 32 bs ≡ length bs → words bs ≡ bs ∷ []
only_word [] h = refl
only_word (b ∷ bs) h = elim (cases_Bool (nat_eq b 32)) [
  | inl t ↦ let g : 0 ≡ length (b ∷ bs) = rw t at h in absurd (omega arith)
  | inr f ↦ let g : before 32 bs + 1 ≡ length (b ∷ bs) = rw f at h in rw f (ap (front_word b) (only_word bs (omega arith)))
]

pub split_found : (bs : List ℕ) (at : ℕ) → at ≡ before 32 bs → at < length bs → words bs ≡ take at bs ∷ words (take (length bs - (at + 1)) (drop (at + 1) bs))
split_found bs at e h =
    let f : before 32 bs < length bs = subst (λ (n : ℕ). n < length bs) e h in
    first_word bs f ∙ ap (λ (n : ℕ). take n bs ∷ words (drop (n + 1) bs)) (sym e) ∙ ap (λ (t : List ℕ). take at bs ∷ words t) (sym (take_rest bs (at + 1)))

some_front : (b : ℕ) (ws : List (List ℕ)) → (w : List ℕ) × (vs : List (List ℕ)) × (front_word b ws ≡ w ∷ vs)
some_front b [] = (b ∷ [], [], refl)
some_front b (w ∷ ws) = (b ∷ w, ws, refl)

some_split : (t : Bool) (b : ℕ) (ws : List (List ℕ)) → (w : List ℕ) × (vs : List (List ℕ)) × (split_byte t b ws ≡ w ∷ vs)
some_split true b ws = ([], ws, refl)
some_split false b ws = some_front b ws

-- there is always a word
pub some_word : (bs : List ℕ) → (w : List ℕ) × (ws : List (List ℕ)) × (words bs ≡ w ∷ ws)
some_word [] = ([], [], refl)
some_word (b ∷ bs) = some_split (nat_eq b 32) b (words bs)

-- five words are no line of the table
pub too_many : (w a b c x y z : List ℕ) → words x ≡ b ∷ words y → words y ≡ c ∷ words z → form_of (w ∷ a ∷ words x) ≡ None
too_many w a b c x y z e f =
    let s = some_word z in
    ap (λ (ws : List (List ℕ)). form_of (w ∷ a ∷ ws)) (e ∙ ap (λ (ws : List (List ℕ)). b ∷ ws) (f ∙ ap (λ (ws : List (List ℕ)). c ∷ ws) s.2))

-- ---- a walk to the first mark

not_here : (m b : ℕ) (bs : List ℕ) → (b ≡ m → ⊥) → before m (b ∷ bs) ≡ before m bs + 1
not_here m b bs h = elim (cases_Bool (nat_eq b m)) [
  | inl t ↦ absurd (h ((unsigned_Decides b m).0 t))
  | inr f ↦ rw f refl
]

here : (m b : ℕ) (bs : List ℕ) → b ≡ m → before m (b ∷ bs) ≡ 0
here m b bs e = let t : nat_eq b m ≡ true = (unsigned_Decides b m).1 e in rw t refl

-- a byte that is not the mark is passed
pub passed : (m : ℕ) (bs : List ℕ) (i : ℕ) → i < length bs → (get_or bs i 0 ≡ m → ⊥) → i + before m (drop i bs) ≡ before m bs → i + 1 + before m (drop (i + 1) bs) ≡ before m bs
passed m bs i h k e =
    let a : before m (drop i bs) ≡ before m (drop (i + 1) bs) + 1 = ap (before m) (drop_more bs i 0 h) ∙ not_here m (get_or bs i 0) (drop (i + 1) bs) k in
    omega arith

-- the mark stands here
pub found : (m : ℕ) (bs : List ℕ) (i : ℕ) → i < length bs → get_or bs i 0 ≡ m → i + before m (drop i bs) ≡ before m bs → i ≡ before m bs
found m bs i h k e =
    let a : before m (drop i bs) ≡ 0 = ap (before m) (drop_more bs i 0 h) ∙ here m (get_or bs i 0) (drop (i + 1) bs) k in
    omega arith

-- there is no mark
pub none_found : (m : ℕ) (bs : List ℕ) (i : ℕ) → length bs ≤ i → i ≤ length bs → i + before m (drop i bs) ≡ before m bs → length bs ≡ before m bs
none_found m bs i h k e =
    let a : before m (drop i bs) ≡ 0 = ap (before m) (drop_all i bs h) in
    omega arith

-- a byte of a name is passed, and none is left
pub name_goes_on : (bs : List ℕ) (i : ℕ) → i < length bs → is_name_byte (get_or bs i 0) ≡ true → AreNameBytes bs ↔ AreNameBytes (drop i bs) → AreNameBytes bs ↔ AreNameBytes (drop (i + 1) bs)
name_goes_on bs i h t k = (
  λ a. (subst AreNameBytes (drop_more bs i 0 h) (k.0 a)).1,
  λ a. k.1 (subst AreNameBytes (sym (drop_more bs i 0 h)) (t, a)),
)

pub name_ends : (bs : List ℕ) (i : ℕ) → length bs ≤ i → AreNameBytes bs ↔ AreNameBytes (drop i bs) → AreNameBytes bs
name_ends bs i h k = k.1 (subst AreNameBytes (sym (drop_all i bs h)) tt)

pub no_name : (bs : List ℕ) (i : ℕ) → i < length bs → is_name_byte (get_or bs i 0) ≡ false → AreNameBytes bs ↔ AreNameBytes (drop i bs) → AreNameBytes bs → ⊥
no_name bs i h f k a = let t : is_name_byte (get_or bs i 0) ≡ true = (subst AreNameBytes (drop_more bs i 0 h) (k.0 a)).0 in let e : true ≡ false = sym t ∙ f in cc
