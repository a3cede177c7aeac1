-- What a test says, and whether a text is a path.
use Rattle.std.proofs.Common.{◌≡◌, ◌≢◌, ◌≤◌, ◌∙◌, sym, ap, refl, subst, inl, inr, ℕ, Bool, true, false, not, ◌&&◌, nat_eq, nat_le, List, [], ◌∷◌, ◌++◌, length}
use Rattle.std.specs.List.{list_all, AllByRecursion}
use Rattle.std.specs.Str.{bytes_eq}
use Rattle.std.specs.Cmp.{unsigned_Decides}
use Rattle.std.specs.Cmp.Lexicographic.{bytes_decides}
use Rattle.buck_label.specs.Paths.{IsPath, IsPathText, IsSegment, IsSegmentByte, is_segment_byte, joined}
use Rattle.target_file.specs.Contents.{is_path, is_segment, parts, longer_first}
use Rattle.std.proofs.lemmas.Bool.{eqb-true, leb-true, le-leb, cases_Bool}
use Rattle.buck_label.proofs.PathLemmas.{no_slash}

-- a test says whether the fact holds
abbrev pub Says : Bool → Type 0 → Type 0
Says true P = P
Says false P = P → ⊥

pub both_say : (a b : Bool) (P Q : Type 0) → Says a P → Says b Q → Says (a && b) (P × Q)
both_say true true P Q p q = (p, q)
both_say true false P Q p q = λ h. q h.1
both_say false b P Q p q = λ h. p h.0

pub not_says : (a : Bool) (P : Type 0) → Says a P → Says (not a) (P → ⊥)
not_says true P p = λ n. n p
not_says false P p = p

pub says_by : (b : Bool) {P : Type 0} → (b ≡ true → P) → (P → b ≡ true) → Says b P
says_by true f g = f refl
says_by false f g = λ p. let h = g p in cc

pub says_true : (b : Bool) {P : Type 0} → Says b P → b ≡ true → P
says_true true s e = s
says_true false s e = cc

pub true_says : (b : Bool) {P : Type 0} → Says b P → P → b ≡ true
true_says true s p = refl
true_says false s p = absurd (s p)

self : (n : ℕ) → nat_eq n n ≡ true
self n = (unsigned_Decides n n).1 refl

pub itself : (b : Bool) → Says b (b ≡ true)
itself true = refl
itself false = λ e. cc

pub number_says : (m n : ℕ) → Says (nat_eq m n) (m ≡ n)
number_says m n = says_by (nat_eq m n) (eqb-true m n) (λ e. subst (λ (k : ℕ). nat_eq m k ≡ true) e (self m))

pub bytes_say : (x y : List ℕ) → Says (bytes_eq x y) (x ≡ y)
bytes_say x y = says_by (bytes_eq x y) (bytes_decides x y).0 (bytes_decides x y).1

all_bytes : (s : List ℕ) → Says (list_all is_segment_byte s) (AllByRecursion IsSegmentByte s)
all_bytes [] = tt
all_bytes (b ∷ s) = both_say (is_segment_byte b) (list_all is_segment_byte s) (IsSegmentByte b) (AllByRecursion IsSegmentByte s) (itself (is_segment_byte b)) (all_bytes s)

segment_by : (a b c d : Bool) (s : List ℕ) → Says a (AllByRecursion IsSegmentByte s) → Says b (s ≢ []) → Says c (s ≢ 46 ∷ []) → Says d (s ≢ 46 ∷ 46 ∷ []) → Says ((a && b) && (c && d)) (IsSegment s)
segment_by true true true true s h k m n = record { some = k; each = h; no_dot = m; no_dots = n }
segment_by true true true false s h k m n = λ p. n p.no_dots
segment_by true true false d s h k m n = λ p. m p.no_dot
segment_by true false c d s h k m n = λ p. k p.some
segment_by false b c d s h k m n = λ p. h p.each

segment_says : (s : List ℕ) → Says (is_segment s) (IsSegment s)
segment_says s =
    segment_by (list_all is_segment_byte s) (not (bytes_eq s [])) (not (bytes_eq s (46 ∷ []))) (not (bytes_eq s (46 ∷ 46 ∷ []))) s (all_bytes s)
    (not_says (bytes_eq s []) (s ≡ []) (bytes_say s [])) (not_says (bytes_eq s (46 ∷ [])) (s ≡ 46 ∷ []) (bytes_say s (46 ∷ []))) (not_says (bytes_eq s (46 ∷ 46 ∷ [])) (s ≡ 46 ∷ 46 ∷ []) (bytes_say s (46 ∷ 46 ∷ [])))

segments_say : (ss : List (List ℕ)) → Says (list_all is_segment ss) (AllByRecursion IsSegment ss)
segments_say [] = tt
segments_say (s ∷ ss) = both_say (is_segment s) (list_all is_segment ss) (IsSegment s) (AllByRecursion IsSegment ss) (segment_says s) (segments_say ss)

-- the parts of a text, joined, are the text
first_not_none : (b : ℕ) (ss : List (List ℕ)) → longer_first b ss ≢ []
first_not_none b [] e = cc
first_not_none b (s ∷ ss) e = cc

parts_some : (x : List ℕ) → parts x ≢ []
parts_some [] e = cc
parts_some (b ∷ x) e = elim (cases_Bool (nat_eq b 47)) [
  | inl t ↦ let k : [] ∷ parts x ≡ [] = rw t at e in cc
  | inr f ↦ let k : longer_first b (parts x) ≡ [] = rw f at e in first_not_none b (parts x) k
]

join_first : (b : ℕ) (ss : List (List ℕ)) → ss ≢ [] → joined (longer_first b ss) ≡ b ∷ joined ss
join_first b [] n = absurd (n refl)
join_first b (s ∷ []) n = refl
join_first b (s ∷ t ∷ ss) n = refl

join_empty : (ss : List (List ℕ)) → ss ≢ [] → joined ([] ∷ ss) ≡ 47 ∷ joined ss
join_empty [] n = absurd (n refl)
join_empty (t ∷ ss) n = refl

joined_parts : (x : List ℕ) → joined (parts x) ≡ x
joined_parts [] = refl
joined_parts (b ∷ x) = elim (cases_Bool (nat_eq b 47)) [
  | inl t ↦ let e : b ≡ 47 = eqb-true b 47 t in rw t (join_empty (parts x) (parts_some x) ∙ ap (λ (r : List ℕ). 47 ∷ r) (joined_parts x) ∙ ap (λ (c : ℕ). c ∷ x) (sym e))
  | inr f ↦ rw f (join_first b (parts x) (parts_some x) ∙ ap (λ (r : List ℕ). b ∷ r) (joined_parts x))
]

last_part : (s : List ℕ) → AllByRecursion IsSegmentByte s → parts s ≡ s ∷ []
last_part [] h = refl
last_part (b ∷ s) h = let f = no_slash b h.0 in rw f (ap (longer_first b) (last_part s h.1))

next_part : (s r : List ℕ) → AllByRecursion IsSegmentByte s → parts (s ++ 47 ∷ r) ≡ s ∷ parts r
next_part [] r h = refl
next_part (b ∷ s) r h = let f = no_slash b h.0 in rw f (ap (longer_first b) (next_part s r h.1))

parts_joined : (ss : List (List ℕ)) → ss ≢ [] → AllByRecursion IsSegment ss → parts (joined ss) ≡ ss
parts_joined [] n h = absurd (n refl)
parts_joined (s ∷ []) n h = last_part s h.0.each
parts_joined (s ∷ t ∷ ss) n h = next_part s (joined (t ∷ ss)) h.0.each ∙ ap (λ (r : List (List ℕ)). s ∷ r) (parts_joined (t ∷ ss) (λ e. cc) h.1)

text_by : (b : Bool) (x : List ℕ) → Says b (AllByRecursion IsSegment (parts x)) → Says b (IsPathText x)
text_by true x h = record { segments = parts x; some = parts_some x; each = h; text_is = sym (joined_parts x) }
text_by false x h = λ p. h (subst (AllByRecursion IsSegment) (sym (ap parts p.text_is ∙ parts_joined p.segments p.some p.each)) p.each)

text_says : (x : List ℕ) → Says (list_all is_segment (parts x)) (IsPathText x)
text_says x = text_by (list_all is_segment (parts x)) x (segments_say (parts x))

path_by : (a b : Bool) (x : List ℕ) → Says a (IsPathText x) → Says b (length x ≤ 255) → Says (a && b) (IsPath x)
path_by true true x h k = record { text_is = h; fits = k }
path_by true false x h k = λ p. k p.fits
path_by false b x h k = λ p. h p.text_is

pub path_says : (x : List ℕ) → Says (is_path x) (IsPath x)
path_says x = path_by (list_all is_segment (parts x)) (nat_le (length x) 255) x (text_says x) (says_by (nat_le (length x) 255) (leb-true (length x) 255) (le-leb (length x) 255))
