-- The event that a line tells, but for what a commit changes.
use Rattle.std.proofs.Common.{◌≡◌, ◌<◌, ◌^◌, ℕ, Bool, true, false, cond, if◌then◌else◌, List, [], ◌∷◌, ◌++◌, get_or, drop, map, filter, codes, decimal, IsPermutation, refl, sym, ap, ◌∙◌, subst, bytes_eq}
use Rattle.std.specs.List.{AllByRecursion}
use Rattle.std.specs.Str.Parse.{digits_value}
use Rattle.std.proofs.lemmas.Fmt.{decimal_is_IsNumeral}
use Rattle.std.proofs.lemmas.List.Elements.{All-from_recursion, recursion_from_All}
use Rattle.std.proofs.lemmas.List.Sorted.{All-permutation}
use Rattle.journal.specs.declared.event.Told.{Told}
use Rattle.journal.specs.declared.event.Told.TheVariants.{Commit, Open, Close, Ask, Leave, Start, Keep, End, Cyclic, Drop, Lost}
use Rattle.journal.specs.declared.event.Reason.{Reason}
use Rattle.journal.specs.declared.event.Reason.TheVariants.{New, Transient, Differs}
use Rattle.journal.specs.Texts.{spaced, has_bytes, changed, reason_words, IsLine}
use Rattle.action_digest.specs.declared.key.Key.{Key}
use Rattle.action_digest.specs.declared.key.Key.TheVariants as key
use Rattle.action_digest.specs.declared.value.Value.{Value}
use Rattle.action_digest.specs.Buck.{buck, key_text, short_text}
use Rattle.script_trace.proofs.Spelled.{IsWord, IsSpelled, ReasonIsSpelled, TellsSpelled}
use Rattle.script_trace.proofs.Pieces.{IsFree, pieces, words_back, words_free, joined_free, spaced_free, number_word}

-- ---- a key, by the word of its kind and its own text

abbrev kind : Key → List ℕ
kind (key.Source p) = codes "source"
kind (key.Package p) = codes "package"
kind (key.Rule l) = codes "rule"
kind (key.Action l) = codes "action"
kind (key.Digest l) = codes "digest"

abbrev key_by : List ℕ → List ℕ → Key
key_by w t =
    if bytes_eq w (codes "source") then key.Source t else (if bytes_eq w (codes "package") then key.Package (drop 2 t) else (if bytes_eq w (codes "rule") then key.Rule t else (if bytes_eq w (codes "action") then key.Action t else key.Digest t)))

key_back : (k : Key) → key_by (kind k) (short_text k) ≡ k
key_back (key.Source p) = refl
key_back (key.Package p) = refl
key_back (key.Rule l) = refl
key_back (key.Action l) = refl
key_back (key.Digest l) = refl

kind_word : (k : Key) → IsWord (kind k)
kind_word (key.Source p) = refl
kind_word (key.Package p) = refl
kind_word (key.Rule l) = refl
kind_word (key.Action l) = refl
kind_word (key.Digest l) = refl

-- its text is those two words
key_spaced : (k : Key) (ts : List (List ℕ)) → spaced (key_text k false ∷ ts) ≡ spaced (kind k ∷ short_text k ∷ ts)
key_spaced (key.Source p) ts = refl
key_spaced (key.Package p) ts = refl
key_spaced (key.Rule l) ts = refl
key_spaced (key.Action l) ts = refl
key_spaced (key.Digest l) ts = refl

key_after : (d : List ℕ) (k : Key) (ts : List (List ℕ)) → spaced (d ∷ key_text k false ∷ ts) ≡ spaced (d ∷ kind k ∷ short_text k ∷ ts)
key_after d k ts = ap (λ r. 32 ∷ d ++ r) (key_spaced k ts)

-- ---- a number

abbrev number : List ℕ → ℕ
number ds = digits_value 10 ds

number_back : (n : ℕ) → n < 2 ^ 64 → number (decimal n) ≡ n
number_back n l = (decimal_is_IsNumeral n l).1

-- ---- a cause

abbrev reason_parts : Reason Key → List (List ℕ)
reason_parts New = codes "new" ∷ []
reason_parts (Transient b) = codes "transient" ∷ decimal b ∷ []
reason_parts (Differs b d) = codes "differs" ∷ decimal b ∷ kind d ∷ short_text d ∷ []

abbrev reason_by : List (List ℕ) → Reason Key
reason_by ws =
    if bytes_eq (get_or ws 0 []) (codes "new") then New else (if bytes_eq (get_or ws 0 []) (codes "transient") then Transient (number (get_or ws 1 [])) else Differs (number (get_or ws 1 [])) (key_by (get_or ws 2 []) (get_or ws 3 [])))

abbrev pub reason_numbers : Reason Key → List ℕ
reason_numbers New = []
reason_numbers (Transient b) = b ∷ []
reason_numbers (Differs b d) = b ∷ []

abbrev pub AreSmall : List ℕ → Type 0
AreSmall ns = AllByRecursion (λ n. n < 2 ^ 64) ns

reason_back : (c : Reason Key) → AreSmall (reason_numbers c) → reason_by (reason_parts c) ≡ c
reason_back New s = refl
reason_back (Transient b) s = λ i. Transient (number_back b s.0 i)
reason_back (Differs b d) s = λ i. Differs (number_back b s.0 i) (key_back d i)

reason_are_words : (c : Reason Key) → AreSmall (reason_numbers c) → ReasonIsSpelled c → AllByRecursion IsWord (reason_parts c)
reason_are_words New s h = (refl, tt)
reason_are_words (Transient b) s h = (refl, (number_word b s.0, tt))
reason_are_words (Differs b d) s h = (refl, (number_word b s.0, (kind_word d, (h, tt))))

reason_spaced : (c : Reason Key) → spaced (reason_words buck c) ≡ spaced (reason_parts c)
reason_spaced New = refl
reason_spaced (Transient b) = refl
reason_spaced (Differs b d) = ap (λ r. 32 ∷ codes "differs" ++ 32 ∷ decimal b ++ r) (key_spaced d [])

reason_after : (d w t : List ℕ) (c : Reason Key) → spaced (d ∷ w ∷ t ∷ reason_words buck c) ≡ spaced (d ∷ w ∷ t ∷ reason_parts c)
reason_after d w t c = ap (λ r. 32 ∷ (d ++ 32 ∷ (w ++ 32 ∷ (t ++ r)))) (reason_spaced c)

-- ---- an event

-- a commit without its changes
abbrev pub bare : Told Key Value → Told Key Value
bare (Commit by c) = Commit by []
bare (Open by v) = Open by v
bare (Close by t) = Close by t
bare (Ask by t k) = Ask by t k
bare (Leave by a) = Leave by a
bare (Start v k c) = Start v k c
bare (Keep v k b) = Keep v k b
bare (End v k) = End v k
bare (Cyclic v k) = Cyclic v k
bare (Drop v k) = Drop v k
bare (Lost v k) = Lost v k

abbrev pub numbers : Told Key Value → List ℕ
numbers (Commit by c) = by ∷ []
numbers (Open by v) = by ∷ v ∷ []
numbers (Close by t) = by ∷ t ∷ []
numbers (Ask by t k) = by ∷ t ∷ []
numbers (Leave by a) = by ∷ a ∷ []
numbers (Start v k c) = v ∷ reason_numbers c
numbers (Keep v k b) = v ∷ b ∷ []
numbers (End v k) = v ∷ []
numbers (Cyclic v k) = v ∷ []
numbers (Drop v k) = v ∷ []
numbers (Lost v k) = v ∷ []

abbrev of_pair : List (List ℕ) → (ℕ → ℕ → Told Key Value) → Told Key Value
of_pair ws f = f (number (get_or ws 0 [])) (number (get_or ws 1 []))

abbrev of_key : List (List ℕ) → (ℕ → Key → Told Key Value) → Told Key Value
of_key ws f = f (number (get_or ws 0 [])) (key_by (get_or ws 1 []) (get_or ws 2 []))

-- the event, by the first word of its line and the others
abbrev told_by : List ℕ → List (List ℕ) → Told Key Value
told_by w ws =
    if bytes_eq w (codes "open") then of_pair ws Open else (
    if bytes_eq w (codes "close") then of_pair ws Close else (
    if bytes_eq w (codes "ask") then Ask (number (get_or ws 0 [])) (number (get_or ws 1 [])) (key_by (get_or ws 2 []) (get_or ws 3 [])) else (
    if bytes_eq w (codes "leave") then of_pair ws Leave else (
    if bytes_eq w (codes "start") then of_key ws (λ v k. Start v k (reason_by (drop 3 ws))) else (
    if bytes_eq w (codes "keep") then of_key ws (λ v k. Keep v k (number (get_or ws 3 []))) else (
    if bytes_eq w (codes "end") then of_key ws End else (
    if bytes_eq w (codes "cyclic") then of_key ws Cyclic else (
    if bytes_eq w (codes "drop") then of_key ws Drop else (
    if bytes_eq w (codes "lost") then of_key ws Lost else Commit (number (get_or ws 0 [])) [])))))))))

-- the text is these words, and they tell the event
record Spelled (e : Told Key Value) (t : List ℕ) : Type 0 where
  first : List ℕ
  rest : List (List ℕ)
  is : t ≡ first ++ spaced rest
  words : AllByRecursion IsWord (first ∷ rest)
  back : told_by first rest ≡ bare e

-- ---- the words of a commit

permuted : (xs ys : List (List ℕ)) → IsPermutation xs ys → AllByRecursion IsWord xs → AllByRecursion IsWord ys
permuted xs ys s h = recursion_from_All IsWord ys (All-permutation IsWord xs ys s (All-from_recursion IsWord xs h))

kept_words : (xs : List (List ℕ)) → AllByRecursion IsWord xs → AllByRecursion IsWord (filter has_bytes xs)
kept_words [] a = tt
kept_words (x ∷ xs) a = by_test (has_bytes x) (kept_words xs a.1)
  where
    by_test : (b : Bool) → AllByRecursion IsWord (filter has_bytes xs) → AllByRecursion IsWord (cond b (x ∷ filter has_bytes xs) (filter has_bytes xs))
    by_test true again = (a.0, again)
    by_test false again = again

short_words : (c : List (Key × Value)) → AllByRecursion (λ (p : Key × Value). IsSpelled p.0) c → AllByRecursion IsWord (map (λ (p : Key × Value). buck.text p.0 true) c)
short_words [] a = tt
short_words (p ∷ c) a = (a.0, short_words c a.1)

-- ---- each line

key_line : (w : List ℕ) (f : ℕ → Key → Told Key Value) (v : ℕ) (k : Key) (t : List ℕ) → IsWord w → told_by w (decimal v ∷ kind k ∷ short_text k ∷ []) ≡ f (number (decimal v)) (key_by (kind k) (short_text k))
    → bare (f v k) ≡ f v k → v < 2 ^ 64 → IsSpelled k → t ≡ w ++ spaced (decimal v ∷ key_text k false ∷ []) → Spelled (f v k) t
key_line w f v k t o b e s h i = record {
  first = w;
  rest = decimal v ∷ kind k ∷ short_text k ∷ [];
  is = i ∙ ap (λ r. w ++ r) (key_after (decimal v) k []);
  words = (o, (number_word v s, (kind_word k, (h, tt))));
  back = b ∙ (λ i. f (number_back v s i) (key_back k i)) ∙ sym e;
}

spelled : (e : Told Key Value) (t : List ℕ) → TellsSpelled e → AreSmall (numbers e) → IsLine buck e t → Spelled e t
spelled (Commit by c) t h s i = record {
  first = codes "commit";
  rest = decimal by ∷ i.texts;
  is = i.text_is;
  words = (refl, (number_word by s.0, permuted (changed buck c) i.texts i.same (kept_words _ (short_words c h))));
  back = λ j. Commit (number_back by s.0 j) [];
}
spelled (Open by v) t h s i = record {
  first = codes "open";
  rest = decimal by ∷ decimal v ∷ [];
  is = i;
  words = (refl, (number_word by s.0, (number_word v s.1.0, tt)));
  back = λ j. Open (number_back by s.0 j) (number_back v s.1.0 j);
}
spelled (Close by v) t h s i = record {
  first = codes "close";
  rest = decimal by ∷ decimal v ∷ [];
  is = i;
  words = (refl, (number_word by s.0, (number_word v s.1.0, tt)));
  back = λ j. Close (number_back by s.0 j) (number_back v s.1.0 j);
}
spelled (Ask by o k) t h s i = record {
  first = codes "ask";
  rest = decimal by ∷ decimal o ∷ kind k ∷ short_text k ∷ [];
  is = i ∙ ap (λ r. codes "ask" ++ 32 ∷ decimal by ++ r) (key_after (decimal o) k []);
  words = (refl, (number_word by s.0, (number_word o s.1.0, (kind_word k, (h, tt)))));
  back = λ j. Ask (number_back by s.0 j) (number_back o s.1.0 j) (key_back k j);
}
spelled (Leave by a) t h s i = record {
  first = codes "leave";
  rest = decimal by ∷ decimal a ∷ [];
  is = i;
  words = (refl, (number_word by s.0, (number_word a s.1.0, tt)));
  back = λ j. Leave (number_back by s.0 j) (number_back a s.1.0 j);
}
spelled (Start v k c) t h s i = record {
  first = codes "start";
  rest = decimal v ∷ kind k ∷ short_text k ∷ reason_parts c;
  is = i ∙ ap (λ r. codes "start" ++ r) (key_after (decimal v) k (reason_words buck c) ∙ reason_after (decimal v) (kind k) (short_text k) c);
  words = (refl, (number_word v s.0, (kind_word k, (h.0, reason_are_words c s.1 h.1))));
  back = λ j. Start (number_back v s.0 j) (key_back k j) (reason_back c s.1 j);
}
spelled (Keep v k b) t h s i = record {
  first = codes "keep";
  rest = decimal v ∷ kind k ∷ short_text k ∷ decimal b ∷ [];
  is = i ∙ ap (λ r. codes "keep" ++ r) (key_after (decimal v) k (decimal b ∷ []));
  words = (refl, (number_word v s.0, (kind_word k, (h, (number_word b s.1.0, tt)))));
  back = λ j. Keep (number_back v s.0 j) (key_back k j) (number_back b s.1.0 j);
}
spelled (End v k) t h s i = key_line (codes "end") End v k t refl refl refl s.0 h i
spelled (Cyclic v k) t h s i = key_line (codes "cyclic") Cyclic v k t refl refl refl s.0 h i
spelled (Drop v k) t h s i = key_line (codes "drop") Drop v k t refl refl refl s.0 h i
spelled (Lost v k) t h s i = key_line (codes "lost") Lost v k t refl refl refl s.0 h i

-- ---- a line read back

abbrev told_in_words : List (List ℕ) → Told Key Value
told_in_words ws = told_by (get_or ws 0 []) (drop 1 ws)

abbrev pub told_in : List ℕ → Told Key Value
told_in t = told_in_words (pieces 32 (t ++ 32 ∷ []))

pub told_back : (e : Told Key Value) (t : List ℕ) → TellsSpelled e → AreSmall (numbers e) → IsLine buck e t → told_in t ≡ bare e
told_back e t h s i =
    let p = spelled e t h s i in
    let free = words_free (p.first ∷ p.rest) p.words in
    ap told_in p.is ∙ ap told_in_words (words_back p.first p.rest free.0) ∙ p.back

pub line_free : (e : Told Key Value) (t : List ℕ) → TellsSpelled e → AreSmall (numbers e) → IsLine buck e t → IsFree 10 t
line_free e t h s i =
    let p = spelled e t h s i in
    let free = words_free (p.first ∷ p.rest) p.words in
    subst (IsFree 10) (sym p.is) (joined_free 10 p.first (spaced p.rest) free.1.0 (spaced_free p.rest free.1.1))
