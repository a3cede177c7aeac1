-- A line that is spelled by its words has those words.
use Rattle.std.proofs.Common.{◌≡◌, ◌∙◌, sym, ap, refl, inl, inr, ℕ, ◌+◌, Bool, true, false, cond, not, ◌&&◌, nat_eq, List, [], ◌∷◌, ◌++◌, take, drop, length, append_assoc, length-append, add-one}
use Rattle.std.specs.List.{AllByRecursion}
use Rattle.std.proofs.lemmas.List.{take_at, drop_at}
use borrow.Author.Tests.{eqb-true}
use Rattle.script.specs.Lines.{before, line_of, behind_line, words, split_byte, front_word}
use Rattle.bulk_script.specs.Spelled.{spaced}
use Rattle.std.proofs.lemmas.Bool.{cases_Bool}

-- neither a space nor an LF
abbrev pub is_solid : ℕ → Bool
is_solid b = not (nat_eq b 32) && not (nat_eq b 10)

abbrev pub IsSolid : List ℕ → Type 0
IsSolid bs = AllByRecursion (λ b. is_solid b ≡ true) bs

abbrev pub AreSolid : List (List ℕ) → Type 0
AreSolid ws = AllByRecursion IsSolid ws

no_other : (P : ℕ → Bool) (m b : ℕ) → P m ≡ false → P b ≡ true → nat_eq b m ≡ true → ⊥
no_other P m b e h t = let k : P b ≡ P m = ap P (eqb-true b m t) in cc

-- bytes of a class without space and LF
pub solid_byte : (P : ℕ → Bool) → P 32 ≡ false → P 10 ≡ false → (b : ℕ) → P b ≡ true → is_solid b ≡ true
solid_byte P e f b h = elim (cases_Bool (nat_eq b 32)) [
  | inl t ↦ absurd (no_other P 32 b e h t)
  | inr s ↦ elim (cases_Bool (nat_eq b 10)) [
    | inl t ↦ absurd (no_other P 10 b f h t)
    | inr l ↦ ap (λ (x : Bool). not x && not (nat_eq b 10)) s ∙ ap not l
  ]
]

pub solid_all : (P : ℕ → Bool) → P 32 ≡ false → P 10 ≡ false → (bs : List ℕ) → AllByRecursion (λ b. P b ≡ true) bs → IsSolid bs
solid_all P e f [] a = tt
solid_all P e f (b ∷ bs) a = (solid_byte P e f b a.0, solid_all P e f bs a.1)

pub all_append : (P : ℕ → Type 0) (xs ys : List ℕ) → AllByRecursion P xs → AllByRecursion P ys → AllByRecursion P (xs ++ ys)
all_append P [] ys a b = b
all_append P (x ∷ xs) ys a b = (a.0, all_append P xs ys a.1 b)

no_space_by : (s l : Bool) → not s && not l ≡ true → s ≡ false
no_space_by true l h = cc
no_space_by false l h = refl

no_feed_by : (s l : Bool) → not s && not l ≡ true → l ≡ false
no_feed_by true l h = cc
no_feed_by false true h = cc
no_feed_by false false h = refl

no_space : (b : ℕ) → is_solid b ≡ true → nat_eq b 32 ≡ false
no_space b h = no_space_by (nat_eq b 32) (nat_eq b 10) h

no_feed : (b : ℕ) → is_solid b ≡ true → nat_eq b 10 ≡ false
no_feed b h = no_feed_by (nat_eq b 32) (nat_eq b 10) h

abbrev pub HasNoFeed : List ℕ → Type 0
HasNoFeed bs = AllByRecursion (λ b. nat_eq b 10 ≡ false) bs

no_feeds : (bs : List ℕ) → IsSolid bs → HasNoFeed bs
no_feeds [] a = tt
no_feeds (b ∷ bs) a = (no_feed b a.0, no_feeds bs a.1)

-- ---- the words

word_then : (w rest : List ℕ) → IsSolid w → words (w ++ 32 ∷ rest) ≡ w ∷ words rest
word_then [] rest a = refl
word_then (b ∷ bs) rest a =
    ap (λ (t : Bool). split_byte t b (words (bs ++ 32 ∷ rest))) (no_space b a.0) ∙ ap (front_word b) (word_then bs rest a.1)

word_last : (w : List ℕ) → IsSolid w → words w ≡ w ∷ []
word_last [] a = refl
word_last (b ∷ bs) a = ap (λ (t : Bool). split_byte t b (words bs)) (no_space b a.0) ∙ ap (front_word b) (word_last bs a.1)

-- words with a space between each two
abbrev pub in_line : List (List ℕ) → List ℕ
in_line [] = []
in_line (w ∷ []) = w
in_line (w ∷ v ∷ ws) = w ++ 32 ∷ in_line (v ∷ ws)

pub words_of_line : (w : List ℕ) (ws : List (List ℕ)) → AreSolid (w ∷ ws) → words (in_line (w ∷ ws)) ≡ w ∷ ws
words_of_line w [] a = word_last w a.0
words_of_line w (v ∷ ws) a = word_then w (in_line (v ∷ ws)) a.0 ∙ ap (λ (vs : List (List ℕ)). w ∷ vs) (words_of_line v ws a.1)

line_no_feed : (w : List ℕ) (ws : List (List ℕ)) → AreSolid (w ∷ ws) → HasNoFeed (in_line (w ∷ ws))
line_no_feed w [] a = no_feeds w a.0
line_no_feed w (v ∷ ws) a =
    let h : HasNoFeed (32 ∷ in_line (v ∷ ws)) = (refl, line_no_feed v ws a.1) in
    all_append (λ b. nat_eq b 10 ≡ false) w (32 ∷ in_line (v ∷ ws)) (no_feeds w a.0) h

spaced_is : (w : List ℕ) (ws : List (List ℕ)) → spaced (w ∷ ws) ≡ in_line (w ∷ ws) ++ 10 ∷ []
spaced_is w [] = refl
spaced_is w (v ∷ ws) = ap (λ (t : List ℕ). w ++ 32 ∷ t) (spaced_is v ws) ∙ sym (append_assoc w (32 ∷ in_line (v ∷ ws)) (10 ∷ []))

before_feed : (bs rest : List ℕ) → HasNoFeed bs → before 10 (bs ++ 10 ∷ rest) ≡ length bs
before_feed [] rest a = refl
before_feed (b ∷ bs) rest a =
    ap (λ (t : Bool). cond t 0 (before 10 (bs ++ 10 ∷ rest) + 1)) a.0 ∙ ap (λ (n : ℕ). n + 1) (before_feed bs rest a.1) ∙ add-one (length bs)

spaced_before : (w : List ℕ) (ws : List (List ℕ)) (rest : List ℕ) → spaced (w ∷ ws) ++ rest ≡ in_line (w ∷ ws) ++ 10 ∷ rest
spaced_before w ws rest = ap (λ (t : List ℕ). t ++ rest) (spaced_is w ws) ∙ append_assoc (in_line (w ∷ ws)) (10 ∷ []) rest

pub line_of_spaced : (w : List ℕ) (ws : List (List ℕ)) (rest : List ℕ) → AreSolid (w ∷ ws) → line_of (spaced (w ∷ ws) ++ rest) ≡ in_line (w ∷ ws)
line_of_spaced w ws rest a =
    let bs = in_line (w ∷ ws) in
    ap line_of (spaced_before w ws rest) ∙ ap (λ (n : ℕ). take n (bs ++ 10 ∷ rest)) (before_feed bs rest (line_no_feed w ws a)) ∙ take_at bs (10 ∷ rest) (length bs) refl

behind_feed : (bs rest : List ℕ) → drop (length bs + 1) (bs ++ 10 ∷ rest) ≡ rest
behind_feed bs rest =
    let e : length (bs ++ 10 ∷ []) ≡ length bs + 1 = length-append bs (10 ∷ []) in
    ap (drop (length bs + 1)) (sym (append_assoc bs (10 ∷ []) rest)) ∙ drop_at (bs ++ 10 ∷ []) rest (length bs + 1) e

pub behind_spaced : (w : List ℕ) (ws : List (List ℕ)) (rest : List ℕ) → AreSolid (w ∷ ws) → behind_line (spaced (w ∷ ws) ++ rest) ≡ rest
behind_spaced w ws rest a =
    let bs = in_line (w ∷ ws) in
    ap behind_line (spaced_before w ws rest) ∙ ap (λ (n : ℕ). drop (n + 1) (bs ++ 10 ∷ rest)) (before_feed bs rest (line_no_feed w ws a)) ∙ behind_feed bs rest
