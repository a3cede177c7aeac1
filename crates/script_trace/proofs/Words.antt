-- Paths, packages and labels are words.
use Rattle.std.proofs.Common.{◌≡◌, ◌⊎◌, inl, inr, ℕ, zero, suc, Bool, true, false, not, ◌&&◌, nat_eq, if◌then◌else◌, List, [], ◌∷◌, ◌++◌, length, take, drop, codes, refl, sym, ap, subst}
use Rattle.std.specs.List.{AllByRecursion}
use Rattle.std.proofs.lemmas.Bool.{and_parts, and_from, ne_eqb, false≢true}
use Rattle.buck_label.specs.Paths.{is_segment_byte, IsSegmentByte, IsSegment, joined, IsPath}
use Rattle.buck_label.specs.Labels.{Name, IsName, IsPackage, printed, IsLabel, IsSomeLabel, within, target_file_of, package_of, before_colon, last_from}
use Rattle.target_file.specs.declared.source.Source.{Source}
use Rattle.target_file.specs.declared.source.Source.TheVariants as source
use Rattle.action_digest.specs.Written.{in_full, full_label, key_in}
use Rattle.script_trace.proofs.Spelled.{is_word, IsWord, IsSpelled}

abbrev pub is_word_byte : ℕ → Bool
is_word_byte b = not (nat_eq b 32) && not (nat_eq b 10)

-- ---- bytes of paths

byte_word : (b : ℕ) → is_segment_byte b ≡ true → is_word_byte b ≡ true
byte_word b h =
    and_from (not (nat_eq b 32)) (not (nat_eq b 10))
    (ap not (ne_eqb b 32 (λ e. false≢true (subst (λ x. is_segment_byte x ≡ true) e h))))
    (ap not (ne_eqb b 10 (λ e. false≢true (subst (λ x. is_segment_byte x ≡ true) e h))))

segment_word : (s : List ℕ) → AllByRecursion IsSegmentByte s → IsWord s
segment_word [] a = refl
segment_word (b ∷ s) a = and_from (is_word_byte b) (is_word s) (byte_word b a.0) (segment_word s a.1)

-- ---- parts of words, and words joined

pub word_both : (xs ys : List ℕ) → IsWord xs → IsWord ys → IsWord (xs ++ ys)
word_both [] ys f g = g
word_both (x ∷ xs) ys f g = let p = and_parts (is_word_byte x) (is_word xs) f in and_from (is_word_byte x) (is_word (xs ++ ys)) p.0 (word_both xs ys p.1 g)

pub word_end : (xs ys : List ℕ) → IsWord (xs ++ ys) → IsWord ys
word_end [] ys f = f
word_end (x ∷ xs) ys f = word_end xs ys (and_parts (is_word_byte x) (is_word (xs ++ ys)) f).1

word_take : (n : ℕ) (xs : List ℕ) → IsWord xs → IsWord (take n xs)
word_take zero xs f = refl
word_take (suc n) [] f = refl
word_take (suc n) (x ∷ xs) f = let p = and_parts (is_word_byte x) (is_word xs) f in and_from (is_word_byte x) (is_word (take n xs)) p.0 (word_take n xs p.1)

word_drop : (n : ℕ) (xs : List ℕ) → IsWord xs → IsWord (drop n xs)
word_drop zero xs f = f
word_drop (suc n) [] f = refl
word_drop (suc n) (x ∷ xs) f = word_drop n xs (and_parts (is_word_byte x) (is_word xs) f).1

-- ---- what the grammars accept

joined_word : (ss : List (List ℕ)) → AllByRecursion IsSegment ss → IsWord (joined ss)
joined_word [] a = refl
joined_word (s ∷ []) a = segment_word s a.0.each
joined_word (s ∷ t ∷ ss) a = word_both s (47 ∷ joined (t ∷ ss)) (segment_word s a.0.each) (joined_word (t ∷ ss) a.1)

pub path_word : (text : List ℕ) → IsPath text → IsWord text
path_word text h = subst IsWord (sym h.text_is.text_is) (joined_word h.text_is.segments h.text_is.each)

package_word : (home : List ℕ) → IsPackage home → IsWord home
package_word home (inl e) = subst IsWord (sym e) refl
package_word home (inr p) = path_word home p

name_word : (n : Name) → IsName n → IsWord (printed n)
name_word n h = word_both n.home (58 ∷ n.target) (package_word n.home h.home) (path_word n.target h.target)

last_word : (path last : List ℕ) → (path ≡ last) ⊎ ((front : List ℕ) × (path ≡ front ++ 47 ∷ last)) → IsWord path → IsWord last
last_word path last (inl e) w = subst IsWord e w
last_word path last (inr (front, e)) w = word_end front (47 ∷ last) (subst IsWord e w)

-- a label as written, and in full
pub label_words : (text : List ℕ) (n : Name) → IsLabel text n → IsWord text × IsWord (printed n)
label_words text n (inl l) = let w = name_word n l.name in (subst IsWord (sym l.text_is) w, w)
label_words text n (inr s) =
    let home = path_word n.home s.home in
    (subst IsWord (sym s.text_is) home, word_both n.home (58 ∷ n.target) home (last_word n.home n.target s.last.ends home))

pub some_label_word : (text : List ℕ) → IsSomeLabel text → IsWord text
some_label_word text (n, inl l) = (label_words text n l).0
some_label_word text (n, inr l) = subst IsWord (sym l.text_is) (path_word n.target l.target)

-- ---- what is made of words

pub package_of_word : (l : List ℕ) → IsWord l → IsWord (package_of l)
package_of_word l w = word_take (before_colon (drop 2 l)) (drop 2 l) (word_drop 2 l w)

within_word : (home path : List ℕ) → IsWord home → IsWord path → IsWord (within home path)
within_word [] path h w = w
within_word (b ∷ bs) path h w = word_both (b ∷ bs) (47 ∷ path) h w

pub target_file_word : (home : List ℕ) → IsWord home → IsWord (target_file_of home)
target_file_word home h = within_word home (codes "BUCK") h refl

last_from_word : (whole bs : List ℕ) → IsWord whole → IsWord bs → IsWord (last_from whole bs)
last_from_word whole [] w h = w
last_from_word whole (b ∷ bs) w h =
    let rest : IsWord bs = (and_parts (is_word_byte b) (is_word bs) h).1 in
    by_test (nat_eq b 47) (last_from_word bs bs rest rest) (last_from_word whole bs w rest)
  where
    by_test : (t : Bool) → IsWord (last_from bs bs) → IsWord (last_from whole bs) → IsWord (if t then last_from bs bs else last_from whole bs)
    by_test true here there = here
    by_test false here there = there

in_full_word : (text : List ℕ) → IsWord text → IsWord (in_full text)
in_full_word text w = by_test (nat_eq (before_colon text) (length text))
  where
    by_test : (t : Bool) → IsWord (if t then text ++ 58 ∷ last_from (drop 2 text) (drop 2 text) else text)
    by_test true = word_both text (58 ∷ last_from (drop 2 text) (drop 2 text)) w (last_from_word (drop 2 text) (drop 2 text) (word_drop 2 text w) (word_drop 2 text w))
    by_test false = w

full_word : (home text : List ℕ) → IsWord home → IsWord text → IsWord (full_label home text)
full_word home [] h w = refl
full_word home (b ∷ text) h w = by_test (nat_eq b 58)
  where
    by_test : (t : Bool) → IsWord (if t then printed (record { home = home; target = text }) else in_full (b ∷ text))
    by_test true = word_both home (58 ∷ text) h (and_parts (is_word_byte b) (is_word text) w).1
    by_test false = in_full_word (b ∷ text) w

-- the text of a source is a word
abbrev pub SourceIsWord : Source → Type 0
SourceIsWord (source.Path p) = IsWord p
SourceIsWord (source.Label l) = IsWord l

pub key_in_word : (home : List ℕ) (s : Source) → IsWord home → SourceIsWord s → IsSpelled (key_in home s)
key_in_word home (source.Path p) h w = within_word home p h w
key_in_word home (source.Label l) h w = full_word home l h w
