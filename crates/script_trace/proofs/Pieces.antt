-- Texts cut at a byte.
use Rattle.std.proofs.Common.{◌≡◌, ◌<◌, ℕ, Bool, true, false, not, ◌&&◌, nat_eq, List, [], ◌∷◌, ◌++◌, decimal, flat_map, refl, ap, ◌∙◌, arith, append_assoc, append-nil, ◌^◌}
use Rattle.std.specs.List.{AllByRecursion}
use Rattle.std.specs.Str.Parse.{AllDigits}
use Rattle.std.proofs.lemmas.Bool.{and_parts, and_from, ne_eqb, eq-eqb}
use Rattle.std.proofs.lemmas.Fmt.{decimal_is_IsNumeral}
use Rattle.std.proofs.lemmas.Str.Parse.{digit_from_value}
use Rattle.script.specs.Lines.{split_byte, front_word}
use Rattle.journal.specs.Texts.{spaced}
use Rattle.script_trace.specs.Output.{line}
use Rattle.script_trace.proofs.Spelled.{is_word, IsWord}

-- the byte does not stand in the text
abbrev pub IsFree : ℕ → List ℕ → Type 0
IsFree s text = AllByRecursion (λ b. nat_eq b s ≡ false) text

-- what stands before each s, and after the last, if something does
abbrev pub pieces : ℕ → List ℕ → List (List ℕ)
pieces s [] = []
pieces s (b ∷ bs) = split_byte (nat_eq b s) b (pieces s bs)

pub piece : (s : ℕ) (t r : List ℕ) → IsFree s t → pieces s (t ++ s ∷ r) ≡ t ∷ pieces s r
piece s [] r h = ap (λ x. split_byte x s (pieces s r)) (eq-eqb s s refl)
piece s (b ∷ t) r h = ap (λ x. split_byte x b (pieces s (t ++ s ∷ r))) h.0 ∙ ap (front_word b) (piece s t r h.1)

-- lines, and words, are what they were joined from
pub lines_back : (ls : List (List ℕ)) → AllByRecursion (IsFree 10) ls → pieces 10 (flat_map line ls) ≡ ls
lines_back [] a = refl
lines_back (l ∷ ls) a = ap (pieces 10) (append_assoc l (10 ∷ []) (flat_map line ls)) ∙ piece 10 l (flat_map line ls) a.0 ∙ ap (λ r. l ∷ r) (lines_back ls a.1)

pub words_back : (w : List ℕ) (ts : List (List ℕ)) → AllByRecursion (IsFree 32) (w ∷ ts) → pieces 32 ((w ++ spaced ts) ++ 32 ∷ []) ≡ w ∷ ts
words_back w [] a = ap (λ x. pieces 32 (x ++ 32 ∷ [])) (append-nil w) ∙ piece 32 w [] a.0
words_back w (t ∷ ts) a =
    ap (pieces 32) (append_assoc w (32 ∷ (t ++ spaced ts)) (32 ∷ [])) ∙ piece 32 w ((t ++ spaced ts) ++ 32 ∷ []) a.0 ∙ ap (λ r. w ∷ r) (words_back t ts a.1)

-- ---- if no such byte stands

was_not : (b : Bool) → not b ≡ true → b ≡ false
was_not true e = cc
was_not false e = refl

pub word_free : (w : List ℕ) → IsWord w → IsFree 32 w × IsFree 10 w
word_free [] h = (tt, tt)
word_free (b ∷ w) h =
    let both = and_parts (not (nat_eq b 32) && not (nat_eq b 10)) (is_word w) h in
    let each = and_parts (not (nat_eq b 32)) (not (nat_eq b 10)) both.0 in
    let rest = word_free w both.1 in
    ((was_not (nat_eq b 32) each.0, rest.0), (was_not (nat_eq b 10) each.1, rest.1))

pub words_free : (ws : List (List ℕ)) → AllByRecursion IsWord ws → AllByRecursion (IsFree 32) ws × AllByRecursion (IsFree 10) ws
words_free [] h = (tt, tt)
words_free (w ∷ ws) h = let first = word_free w h.0 in let rest = words_free ws h.1 in ((first.0, rest.0), (first.1, rest.1))

pub joined_free : (s : ℕ) (xs ys : List ℕ) → IsFree s xs → IsFree s ys → IsFree s (xs ++ ys)
joined_free s [] ys f g = g
joined_free s (x ∷ xs) ys f g = (f.0, joined_free s xs ys f.1 g)

pub spaced_free : (ts : List (List ℕ)) → AllByRecursion (IsFree 10) ts → IsFree 10 (spaced ts)
spaced_free [] a = tt
spaced_free (t ∷ ts) a = (refl, joined_free 10 t (spaced ts) a.0 (spaced_free ts a.1))

digits_word : (ds : List ℕ) → AllDigits 10 ds → IsWord ds
digits_word [] d = refl
digits_word (c ∷ cs) d =
    let r = digit_from_value c d.0 in
    and_from (not (nat_eq c 32) && not (nat_eq c 10)) (is_word cs)
    (and_from (not (nat_eq c 32)) (not (nat_eq c 10)) (ap not (ne_eqb c 32 (λ e. omega arith))) (ap not (ne_eqb c 10 (λ e. omega arith))))
    (digits_word cs d.1)

pub number_word : (n : ℕ) → n < 2 ^ 64 → IsWord (decimal n)
number_word n l = digits_word (decimal n) (decimal_is_IsNumeral n l).0.1
