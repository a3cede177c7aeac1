-- The grammar of tokens and the scan agree.
use Rattle.std.proofs.Common.{◌≡◌, ◌≢◌, ◌+◌, ◌∙◌, sym, ap, refl, subst, inl, inr, ℕ, Bool, true, false, List, [], ◌∷◌, ◌++◌, append_assoc, append-nil, Option, Some, None, nat_eq}
use Rattle.std.proofs.lemmas.Bool.{cases_Bool, eqb-true, eqb-false, ne_eqb, eq-eqb}
use Rattle.std.specs.Option.{option_and_then}
use Rattle.target_file.specs.Tokens.{Token, Word, Text, Mark, Mode, Between, Comment, InWord, InText, Escape, Scan, next, scan, ended, tokens, is_blank, is_mark, is_quote, is_letter, escaped, next_line}
use Rattle.target_file.specs.Spelling.{IsPlainIn, IsSpelled, spells_nothing, spells_plain, spells_escaped, EndsWord, AreLetters, IsOneLine, IsTokens, no_token, blank, last_comment, comment, mark, string, word}

abbrev pub in_mode : List Token → Mode → ℕ → Scan
in_mode ts m line = record { tokens = ts; mode = m; line = line }

abbrev pub at_line : List Token → ℕ → Scan
at_line ts line = in_mode ts Between line

-- ---- which byte is what

-- a byte that passes the test is no byte that fails it
pub off : (P : ℕ → Bool) (b n : ℕ) → P b ≡ true → P n ≡ false → nat_eq b n ≡ false
off P b n h k = elim (cases_Bool (nat_eq b n)) [
  | inl t ↦ let e : P n ≡ true = subst (λ (m : ℕ). P m ≡ true) (eqb-true b n t) h in cc
  | inr f ↦ f
]

pub no_blank : (P : ℕ → Bool) (b : ℕ) → P b ≡ true → P 32 ≡ false → P 9 ≡ false → P 13 ≡ false → P 10 ≡ false → is_blank b ≡ false
no_blank P b h p q r s =
    let a = off P b 32 h p in let c = off P b 9 h q in let d = off P b 13 h r in let e = off P b 10 h s in rw (a, c, d, e) refl

pub no_mark : (P : ℕ → Bool) (b : ℕ) → P b ≡ true → P 40 ≡ false → P 41 ≡ false → P 91 ≡ false → P 93 ≡ false → P 44 ≡ false → P 61 ≡ false → is_mark b ≡ false
no_mark P b h p q r s t u =
    let a = off P b 40 h p in let c = off P b 41 h q in let d = off P b 91 h r in
    let e = off P b 93 h s in let f = off P b 44 h t in let g = off P b 61 h u in rw (a, c, d, e, f, g) refl

no_quote : (b : ℕ) → is_letter b ≡ true → is_quote b ≡ false
no_quote b h = let a = off is_letter b 34 h refl in let c = off is_letter b 39 h refl in rw (a, c) refl

-- ---- one byte between tokens

blank_next : (ts : List Token) (line b : ℕ) → is_blank b ≡ true → next (at_line ts line) b ≡ Some (at_line ts (next_line b line))
blank_next ts line b h = rw h refl

pub mark_next : (ts : List Token) (line m : ℕ) → is_mark m ≡ true → next (at_line ts line) m ≡ Some (at_line (ts ++ Mark m ∷ []) line)
mark_next ts line m h =
    let a = no_blank is_mark m h refl refl refl refl in let c = off is_mark m 35 h refl in rw (a, c, h) refl

pub quote_next : (ts : List Token) (line q : ℕ) → is_quote q ≡ true → next (at_line ts line) q ≡ Some (in_mode ts (InText q []) line)
quote_next ts line q h =
    let a = no_blank is_quote q h refl refl refl refl in let c = off is_quote q 35 h refl in
    let d = no_mark is_quote q h refl refl refl refl refl refl in rw (a, c, d, h) refl

-- the first letter of a word
pub letter_next : (ts : List Token) (line b : ℕ) → is_letter b ≡ true → next (at_line ts line) b ≡ Some (in_mode ts (InWord line (b ∷ [])) line)
letter_next ts line b h =
    let a = no_blank is_letter b h refl refl refl refl in let c = off is_letter b 35 h refl in
    let d = no_mark is_letter b h refl refl refl refl refl refl in let e = no_quote b h in
    rw (a, c, d, e, h) refl

-- ---- what the grammar spells is scanned

-- the tokens that a scan comes to with these bytes
abbrev comes_to : Scan → List ℕ → Option (List Token)
comes_to s bs = option_and_then (λ t. ended t.mode t.tokens) (scan s bs)

step : (s u : Scan) (b : ℕ) (bs : List ℕ) → next s b ≡ Some u → comes_to s (b ∷ bs) ≡ comes_to u bs
step s u b bs e = ap (λ (o : Option Scan). option_and_then (λ t. ended t.mode t.tokens) (option_and_then (λ t. scan t bs) o)) e

comment_scan : (c : List ℕ) (ts : List Token) (line : ℕ) (rest : List ℕ) → IsOneLine c → comes_to (in_mode ts Comment line) (c ++ rest) ≡ comes_to (in_mode ts Comment line) rest
comment_scan [] ts line rest h = refl
comment_scan (b ∷ c) ts line rest h =
    let e : nat_eq b 10 ≡ false = ne_eqb b 10 h.0 in
    step (in_mode ts Comment line) (in_mode ts Comment line) b (c ++ rest) (rw e refl) ∙ comment_scan c ts line rest h.1

plain_next : (q b : ℕ) (ts : List Token) (line : ℕ) (y : List ℕ) → IsPlainIn q b → next (in_mode ts (InText q y) line) b ≡ Some (in_mode ts (InText q (y ++ b ∷ [])) line)
plain_next q b ts line y p =
    let a : nat_eq b 10 ≡ false = ne_eqb b 10 p.no_line_feed in let c : nat_eq b 13 ≡ false = ne_eqb b 13 p.no_return in
    let d : nat_eq b q ≡ false = ne_eqb b q p.no_quote in let e : nat_eq b 92 ≡ false = ne_eqb b 92 p.no_backslash in rw (a, c, d, e) refl

backslash_next : (q : ℕ) (ts : List Token) (line : ℕ) (y : List ℕ) → is_quote q ≡ true → next (in_mode ts (InText q y) line) 92 ≡ Some (in_mode ts (Escape q y) line)
backslash_next q ts line y h =
    let e : nat_eq 92 q ≡ false = ne_eqb 92 q (λ s. eqb-false q 92 (off is_quote q 92 h refl) (sym s)) in rw e refl

close_next : (q : ℕ) (ts : List Token) (line : ℕ) (y : List ℕ) → is_quote q ≡ true → next (in_mode ts (InText q y) line) q ≡ Some (at_line (ts ++ Text y ∷ []) line)
close_next q ts line y h =
    let a = off is_quote q 10 h refl in let c = off is_quote q 13 h refl in let e : nat_eq q q ≡ true = eq-eqb q q refl in rw (a, c, e) refl

escape_next : (q b c : ℕ) (ts : List Token) (line : ℕ) (y : List ℕ) → escaped b ≡ Some c → next (in_mode ts (Escape q y) line) b ≡ Some (in_mode ts (InText q (y ++ c ∷ [])) line)
escape_next q b c ts line y e = ap (λ (o : Option ℕ). option_and_then (λ d. Some (in_mode ts (InText q (y ++ d ∷ [])) line)) o) e

-- a string with more in front of what it stands for
moved : (ts : List Token) (line : ℕ) (y : List ℕ) (c : ℕ) (x rest : List ℕ) → comes_to (at_line (ts ++ Text ((y ++ c ∷ []) ++ x) ∷ []) line) rest ≡ comes_to (at_line (ts ++ Text (y ++ c ∷ x) ∷ []) line) rest
moved ts line y c x rest = ap (λ (z : List ℕ). comes_to (at_line (ts ++ Text z ∷ []) line) rest) (append_assoc y (c ∷ []) x)

string_scan : (q : ℕ) (s x : List ℕ) (ts : List Token) (line : ℕ) (y rest : List ℕ) → is_quote q ≡ true → IsSpelled q s x →
    comes_to (in_mode ts (InText q y) line) (s ++ q ∷ rest) ≡ comes_to (at_line (ts ++ Text (y ++ x) ∷ []) line) rest
string_scan q _ _ ts line y rest h spells_nothing =
    step (in_mode ts (InText q y) line) (at_line (ts ++ Text y ∷ []) line) q rest (close_next q ts line y h)
    ∙ ap (λ (z : List ℕ). comes_to (at_line (ts ++ Text z ∷ []) line) rest) (sym (append-nil y))
string_scan q _ _ ts line y rest h (spells_plain b {bytes} {string = x} p more) =
    step (in_mode ts (InText q y) line) (in_mode ts (InText q (y ++ b ∷ [])) line) b (bytes ++ q ∷ rest) (plain_next q b ts line y p)
    ∙ string_scan q bytes x ts line (y ++ b ∷ []) rest h more ∙ moved ts line y b x rest
string_scan q _ _ ts line y rest h (spells_escaped b c {bytes} {string = x} e more) =
    step (in_mode ts (InText q y) line) (in_mode ts (Escape q y) line) 92 (b ∷ (bytes ++ q ∷ rest)) (backslash_next q ts line y h)
    ∙ step (in_mode ts (Escape q y) line) (in_mode ts (InText q (y ++ c ∷ [])) line) b (bytes ++ q ∷ rest) (escape_next q b c ts line y e)
    ∙ string_scan q bytes x ts line (y ++ c ∷ []) rest h more ∙ moved ts line y c x rest

-- a word is whole before what does not go on with it
word_whole : (rest : List ℕ) (ts : List Token) (line k : ℕ) (w : List ℕ) → EndsWord rest → comes_to (in_mode ts (InWord k w) line) rest ≡ comes_to (at_line (ts ++ Word k w ∷ []) line) rest
word_whole [] ts line k w h = refl
word_whole (b ∷ rest) ts line k w h = rw h refl

word_scan : (more : List ℕ) (ts : List Token) (line k : ℕ) (w rest : List ℕ) → AreLetters more → EndsWord rest →
    comes_to (in_mode ts (InWord k w) line) (more ++ rest) ≡ comes_to (at_line (ts ++ Word k (w ++ more) ∷ []) line) rest
word_scan [] ts line k w rest h e = word_whole rest ts line k w e ∙ ap (λ (z : List ℕ). comes_to (at_line (ts ++ Word k z ∷ []) line) rest) (sym (append-nil w))
word_scan (b ∷ more) ts line k w rest h e =
    let l : is_letter b ≡ true = h.0 in
    step (in_mode ts (InWord k w) line) (in_mode ts (InWord k (w ++ b ∷ [])) line) b (more ++ rest) (rw l refl)
    ∙ word_scan more ts line k (w ++ b ∷ []) rest h.1 e ∙ ap (λ (z : List ℕ). comes_to (at_line (ts ++ Word k z ∷ []) line) rest) (append_assoc w (b ∷ []) more)

behind : (pre : List Token) (t : Token) (ts : List Token) → Some ((pre ++ t ∷ []) ++ ts) ≡ Some (pre ++ t ∷ ts)
behind pre t ts = ap Some (append_assoc pre (t ∷ []) ts)

scanned : (bs : List ℕ) (line : ℕ) (ts pre : List Token) → IsTokens bs line ts → comes_to (at_line pre line) bs ≡ Some (pre ++ ts)
scanned _ line _ pre no_token = ap Some (sym (append-nil pre))
scanned _ line ts pre (blank b {rest} h more) =
    step (at_line pre line) (at_line pre (next_line b line)) b rest (blank_next pre line b h) ∙ scanned rest (next_line b line) ts pre more
scanned _ line _ pre (last_comment c h) =
    ap (comes_to (in_mode pre Comment line)) (sym (append-nil c)) ∙ comment_scan c pre line [] h ∙ ap Some (sym (append-nil pre))
scanned _ line ts pre (comment c {rest} h more) =
    comment_scan c pre line (10 ∷ rest) h ∙ scanned rest (line + 1) ts pre more
scanned _ line _ pre (mark b {rest} {ts = ts} h more) =
    step (at_line pre line) (at_line (pre ++ Mark b ∷ []) line) b rest (mark_next pre line b h) ∙ scanned rest line ts (pre ++ Mark b ∷ []) more ∙ behind pre (Mark b) ts
scanned _ line _ pre (string q s x {rest} {ts = ts} h sp more) =
    step (at_line pre line) (in_mode pre (InText q []) line) q (s ++ q ∷ rest) (quote_next pre line q h)
    ∙ string_scan q s x pre line [] rest h sp ∙ scanned rest line ts (pre ++ Text x ∷ []) more ∙ behind pre (Text x) ts
scanned _ line _ pre (word b w {rest} {ts = ts} h e more) =
    step (at_line pre line) (in_mode pre (InWord line (b ∷ [])) line) b (w ++ rest) (letter_next pre line b h.0)
    ∙ word_scan w pre line line (b ∷ []) rest h.1 e ∙ scanned rest line ts (pre ++ Word line (b ∷ w) ∷ []) more ∙ behind pre (Word line (b ∷ w)) ts

pub read_tokens : (text : List ℕ) (ts : List Token) → IsTokens text 1 ts → tokens text ≡ Some ts
read_tokens text ts h = scanned text 1 ts [] h

-- ---- what is scanned, the grammar spells

-- the rest of a text, if a comment, a word, a string or an escape has begun
data Ends (line : ℕ) (bs : List ℕ) (ts : List Token) : Type 0 where
  last : IsOneLine bs → ts ≡ [] → Ends line bs ts
  ends : (front rest : List ℕ) → IsOneLine front → bs ≡ front ++ 10 ∷ rest → IsTokens rest (line + 1) ts → Ends line bs ts

record EndsIn (k : ℕ) (w : List ℕ) (line : ℕ) (bs : List ℕ) (ts : List Token) : Type 0 where
  pub more : List ℕ
  pub rest : List ℕ
  pub others : List Token
  pub letters : AreLetters more
  pub bytes : bs ≡ more ++ rest
  pub whole : EndsWord rest
  pub tokens_are : ts ≡ Word k (w ++ more) ∷ others
  pub goes_on : IsTokens rest line others

record Closes (q : ℕ) (y : List ℕ) (line : ℕ) (bs : List ℕ) (ts : List Token) : Type 0 where
  pub inner : List ℕ
  pub meant : List ℕ
  pub rest : List ℕ
  pub others : List Token
  pub bytes : bs ≡ inner ++ q ∷ rest
  pub spelled : IsSpelled q inner meant
  pub tokens_are : ts ≡ Text (y ++ meant) ∷ others
  pub goes_on : IsTokens rest line others

record Escapes (q : ℕ) (y : List ℕ) (line : ℕ) (bs : List ℕ) (ts : List Token) : Type 0 where
  pub b : ℕ
  pub c : ℕ
  pub after : List ℕ
  pub bytes : bs ≡ b ∷ after
  pub stands : escaped b ≡ Some c
  pub closes : Closes q (y ++ c ∷ []) line after ts

abbrev Rest : Mode → ℕ → List ℕ → List Token → Type 0
Rest Between line bs ts = IsTokens bs line ts
Rest Comment line bs ts = Ends line bs ts
Rest (InWord k w) line bs ts = EndsIn k w line bs ts
Rest (InText q y) line bs ts = Closes q y line bs ts
Rest (Escape q y) line bs ts = Escapes q y line bs ts

-- a string has a quote
abbrev Quoted : Mode → Type 0
Quoted Between = Unit {0}
Quoted Comment = Unit {0}
Quoted (InWord k w) = Unit {0}
Quoted (InText q y) = is_quote q ≡ true
Quoted (Escape q y) = is_quote q ≡ true

-- a scan that came to `all`: what came before, and the tokens of the rest
record Splits (m : Mode) (line : ℕ) (pre : List Token) (bs : List ℕ) (all : List Token) : Type 0 where
  pub ts : List Token
  pub all_are : all ≡ pre ++ ts
  pub spelled : Rest m line bs ts

-- the rest of a text splits so, wherever its scan begins
abbrev Again : List ℕ → Type 0
Again bs = (m : Mode) (line : ℕ) (pre all : List Token) → Quoted m → comes_to (in_mode pre m line) bs ≡ Some all → Splits m line pre bs all

at_end : (m : Mode) (line : ℕ) (pre all : List Token) → ended m pre ≡ Some all → Splits m line pre [] all
at_end Between line pre all e = let h : pre ≡ all = cc in record { ts = []; all_are = sym h ∙ sym (append-nil pre); spelled = no_token }
at_end Comment line pre all e = let h : pre ≡ all = cc in record { ts = []; all_are = sym h ∙ sym (append-nil pre); spelled = last tt refl }
at_end (InWord k w) line pre all e =
    let h : pre ++ Word k w ∷ [] ≡ all = cc in
    record {
      ts = Word k w ∷ [];
      all_are = sym h;
      spelled = record { more = []; rest = []; others = []; letters = tt; bytes = refl; whole = tt; tokens_are = ap (λ (z : List ℕ). Word k z ∷ []) (sym (append-nil w)); goes_on = no_token };
    }
at_end (InText q y) line pre all e = cc
at_end (Escape q y) line pre all e = cc

-- after a token
one_more : (pre : List Token) (t : Token) (m : Mode) (line : ℕ) (bs : List ℕ) (all : List Token) (s : Splits Between line (pre ++ t ∷ []) bs all) → all ≡ pre ++ t ∷ s.ts
one_more pre t m line bs all s = s.all_are ∙ append_assoc pre (t ∷ []) s.ts

-- the scan goes on at u
goes : (b : ℕ) (bs : List ℕ) (all : List Token) (s u : Scan) → next s b ≡ Some u → comes_to s (b ∷ bs) ≡ Some all → comes_to u bs ≡ Some all
goes b bs all s u e h = sym (step s u b bs e) ∙ h

ends_here : (b : ℕ) (bs : List ℕ) (all : List Token) (s : Scan) → next s b ≡ None → comes_to s (b ∷ bs) ≡ Some all → ⊥
ends_here b bs all s e h =
    let g : comes_to s (b ∷ bs) ≡ None = ap (λ (o : Option Scan). option_and_then (λ t. ended t.mode t.tokens) (option_and_then (λ t. scan t bs) o)) e in
    let x : None ≡ Some all = sym g ∙ h in cc

module _ (b : ℕ) (bs : List ℕ) (again : Again bs) (line : ℕ) (pre all : List Token) (h : comes_to (at_line pre line) (b ∷ bs) ≡ Some all) where
  by_blank : is_blank b ≡ true → Splits Between line pre (b ∷ bs) all
  by_blank e =
      let s = again Between (next_line b line) pre all tt (goes b bs all (at_line pre line) (at_line pre (next_line b line)) (blank_next pre line b e) h) in
      record { ts = s.ts; all_are = s.all_are; spelled = blank b e s.spelled }

  comment_begins : (ts : List Token) → Ends line bs ts → IsTokens (35 ∷ bs) line ts
  comment_begins ts (last o e) = subst (λ (z : List Token). IsTokens (35 ∷ bs) line z) (sym e) (last_comment bs o)
  comment_begins ts (ends c rest o e more) = subst (λ (z : List ℕ). IsTokens (35 ∷ z) line ts) (sym e) (comment c o more)

  by_comment : b ≡ 35 → next (at_line pre line) b ≡ Some (in_mode pre Comment line) → Splits Between line pre (b ∷ bs) all
  by_comment e n =
      let s = again Comment line pre all tt (goes b bs all (at_line pre line) (in_mode pre Comment line) n h) in
      record { ts = s.ts; all_are = s.all_are; spelled = subst (λ (c : ℕ). IsTokens (c ∷ bs) line s.ts) (sym e) (comment_begins s.ts s.spelled) }

  by_mark : is_mark b ≡ true → Splits Between line pre (b ∷ bs) all
  by_mark e =
      let s = again Between line (pre ++ Mark b ∷ []) all tt (goes b bs all (at_line pre line) (at_line (pre ++ Mark b ∷ []) line) (mark_next pre line b e) h) in
      record { ts = Mark b ∷ s.ts; all_are = one_more pre (Mark b) Between line bs all s; spelled = mark b e s.spelled }

  by_quote : is_quote b ≡ true → Splits Between line pre (b ∷ bs) all
  by_quote e =
      let s = again (InText b []) line pre all e (goes b bs all (at_line pre line) (in_mode pre (InText b []) line) (quote_next pre line b e) h) in
      let c : Closes b [] line bs s.ts = s.spelled in
      record {
        ts = s.ts;
        all_are = s.all_are;
        spelled = subst (λ (z : List ℕ). IsTokens (b ∷ z) line s.ts) (sym c.bytes) (subst (IsTokens (b ∷ (c.inner ++ b ∷ c.rest)) line) (sym c.tokens_are) (string b c.inner c.meant e c.spelled c.goes_on));
      }

  by_letter : is_letter b ≡ true → Splits Between line pre (b ∷ bs) all
  by_letter e =
      let s = again (InWord line (b ∷ [])) line pre all tt (goes b bs all (at_line pre line) (in_mode pre (InWord line (b ∷ [])) line) (letter_next pre line b e) h) in
      let c : EndsIn line (b ∷ []) line bs s.ts = s.spelled in
      record {
        ts = s.ts;
        all_are = s.all_are;
        spelled = subst (λ (z : List ℕ). IsTokens (b ∷ z) line s.ts) (sym c.bytes) (subst (IsTokens (b ∷ (c.more ++ c.rest)) line) (sym c.tokens_are) (word b c.more (e, c.letters) c.whole c.goes_on));
      }

  between_splits : Splits Between line pre (b ∷ bs) all
  between_splits = elim (cases_Bool (is_blank b)) as (λ _. Splits Between line pre (b ∷ bs) all) [
    | inl k ↦ by_blank k
    | inr k ↦ elim (cases_Bool (nat_eq b 35)) as (λ _. Splits Between line pre (b ∷ bs) all) [
      | inl c ↦ by_comment (eqb-true b 35 c) (rw (k, c) refl)
      | inr c ↦ elim (cases_Bool (is_mark b)) as (λ _. Splits Between line pre (b ∷ bs) all) [
        | inl m ↦ by_mark m
        | inr m ↦ elim (cases_Bool (is_quote b)) as (λ _. Splits Between line pre (b ∷ bs) all) [
          | inl q ↦ by_quote q
          | inr q ↦ elim (cases_Bool (is_letter b)) as (λ _. Splits Between line pre (b ∷ bs) all) [
            | inl l ↦ by_letter l
            | inr l ↦ absurd (ends_here b bs all (at_line pre line) (rw (k, c, m, q, l) refl) h)
          ]
        ]
      ]
    ]
  ]

comment_goes : (b : ℕ) (bs : List ℕ) (line : ℕ) (ts : List Token) → b ≢ 10 → Ends line bs ts → Ends line (b ∷ bs) ts
comment_goes b bs line ts n (last o e) = last (n, o) e
comment_goes b bs line ts n (ends c rest o e more) = ends (b ∷ c) rest (n, o) (ap (λ (z : List ℕ). b ∷ z) e) more

comment_splits : (b : ℕ) (bs : List ℕ) (again : Again bs) (line : ℕ) (pre all : List Token) → comes_to (in_mode pre Comment line) (b ∷ bs) ≡ Some all → Splits Comment line pre (b ∷ bs) all
comment_splits b bs again line pre all h = elim (cases_Bool (nat_eq b 10)) as (λ _. Splits Comment line pre (b ∷ bs) all) [
  | inl e ↦
      let s = again Between (line + 1) pre all tt (goes b bs all (in_mode pre Comment line) (at_line pre (line + 1)) (rw e refl) h) in
      record { ts = s.ts; all_are = s.all_are; spelled = ends [] bs tt (ap (λ (c : ℕ). c ∷ bs) (eqb-true b 10 e)) s.spelled }
  | inr e ↦
      let s = again Comment line pre all tt (goes b bs all (in_mode pre Comment line) (in_mode pre Comment line) (rw e refl) h) in
      record { ts = s.ts; all_are = s.all_are; spelled = comment_goes b bs line s.ts (eqb-false b 10 e) s.spelled }
]

word_goes : (b : ℕ) (bs : List ℕ) (line k : ℕ) (w : List ℕ) (ts : List Token) → is_letter b ≡ true → EndsIn k (w ++ b ∷ []) line bs ts → EndsIn k w line (b ∷ bs) ts
word_goes b bs line k w ts e c = record {
  more = b ∷ c.more;
  rest = c.rest;
  others = c.others;
  letters = (e, c.letters);
  bytes = ap (λ (z : List ℕ). b ∷ z) c.bytes;
  whole = c.whole;
  tokens_are = c.tokens_are ∙ ap (λ (z : List ℕ). Word k z ∷ c.others) (append_assoc w (b ∷ []) c.more);
  goes_on = c.goes_on;
}

word_ends : (b : ℕ) (bs : List ℕ) (line k : ℕ) (w : List ℕ) (pre all : List Token) → is_letter b ≡ false → Splits Between line (pre ++ Word k w ∷ []) (b ∷ bs) all → Splits (InWord k w) line pre (b ∷ bs) all
word_ends b bs line k w pre all e s = record {
  ts = Word k w ∷ s.ts;
  all_are = s.all_are ∙ append_assoc pre (Word k w ∷ []) s.ts;
  spelled = record { more = []; rest = b ∷ bs; others = s.ts; letters = tt; bytes = refl; whole = e; tokens_are = ap (λ (z : List ℕ). Word k z ∷ s.ts) (sym (append-nil w)); goes_on = s.spelled };
}

word_splits : (b : ℕ) (bs : List ℕ) (again : Again bs) (line : ℕ) (pre all : List Token) (k : ℕ) (w : List ℕ) → comes_to (in_mode pre (InWord k w) line) (b ∷ bs) ≡ Some all → Splits (InWord k w) line pre (b ∷ bs) all
word_splits b bs again line pre all k w h = elim (cases_Bool (is_letter b)) as (λ _. Splits (InWord k w) line pre (b ∷ bs) all) [
  | inl e ↦
      let s = again (InWord k (w ++ b ∷ [])) line pre all tt (goes b bs all (in_mode pre (InWord k w) line) (in_mode pre (InWord k (w ++ b ∷ [])) line) (rw e refl) h) in
      record { ts = s.ts; all_are = s.all_are; spelled = word_goes b bs line k w s.ts e s.spelled }
  | inr e ↦ word_ends b bs line k w pre all e (between_splits b bs again line (pre ++ Word k w ∷ []) all (sym (word_whole (b ∷ bs) pre line k w e) ∙ h))
]

-- a string goes on with a byte that spells c
string_goes : (q c : ℕ) (y : List ℕ) (line : ℕ) (bs front : List ℕ) (ts : List Token) (s : Closes q (y ++ c ∷ []) line bs ts) →
    IsSpelled q (front ++ s.inner) (c ∷ s.meant) → Closes q y line (front ++ bs) ts
string_goes q c y line bs front ts s p = record {
  inner = front ++ s.inner;
  meant = c ∷ s.meant;
  rest = s.rest;
  others = s.others;
  bytes = ap (λ (z : List ℕ). front ++ z) s.bytes ∙ sym (append_assoc front s.inner (q ∷ s.rest));
  spelled = p;
  tokens_are = s.tokens_are ∙ ap (λ (z : List ℕ). Text z ∷ s.others) (append_assoc y (c ∷ []) s.meant);
  goes_on = s.goes_on;
}

escape_goes : (q : ℕ) (y : List ℕ) (line b : ℕ) (bs : List ℕ) (ts : List Token) → b ≡ 92 → Escapes q y line bs ts → Closes q y line (b ∷ bs) ts
escape_goes q y line b bs ts n e =
    subst (λ (z : List ℕ). Closes q y line z ts) (ap (λ (z : List ℕ). 92 ∷ z) (sym e.bytes) ∙ ap (λ (z : ℕ). z ∷ bs) (sym n))
    (string_goes q e.c y line e.after (92 ∷ e.b ∷ []) ts e.closes (spells_escaped e.b e.c e.stands e.closes.spelled))

string_ends : (q b : ℕ) (y : List ℕ) (line : ℕ) (bs : List ℕ) (pre all : List Token) → b ≡ q → Splits Between line (pre ++ Text y ∷ []) bs all → Splits (InText q y) line pre (b ∷ bs) all
string_ends q b y line bs pre all e s = record {
  ts = Text y ∷ s.ts;
  all_are = s.all_are ∙ append_assoc pre (Text y ∷ []) s.ts;
  spelled = record { inner = []; meant = []; rest = bs; others = s.ts; bytes = ap (λ (z : ℕ). z ∷ bs) e; spelled = spells_nothing; tokens_are = ap (λ (z : List ℕ). Text z ∷ s.ts) (sym (append-nil y)); goes_on = s.spelled };
}

module _ (b : ℕ) (bs : List ℕ) (again : Again bs) (line : ℕ) (pre all : List Token) (q : ℕ) (y : List ℕ) (quoted : is_quote q ≡ true) where
  string_splits : comes_to (in_mode pre (InText q y) line) (b ∷ bs) ≡ Some all → Splits (InText q y) line pre (b ∷ bs) all
  string_splits h = elim (cases_Bool (nat_eq b 10)) as (λ _. Splits (InText q y) line pre (b ∷ bs) all) [
    | inl f ↦ absurd (ends_here b bs all (in_mode pre (InText q y) line) (rw f refl) h)
    | inr f ↦ elim (cases_Bool (nat_eq b 13)) as (λ _. Splits (InText q y) line pre (b ∷ bs) all) [
      | inl r ↦ absurd (ends_here b bs all (in_mode pre (InText q y) line) (rw (f, r) refl) h)
      | inr r ↦ elim (cases_Bool (nat_eq b q)) as (λ _. Splits (InText q y) line pre (b ∷ bs) all) [
        | inl c ↦ string_ends q b y line bs pre all (eqb-true b q c) (again Between line (pre ++ Text y ∷ []) all tt (goes b bs all (in_mode pre (InText q y) line) (at_line (pre ++ Text y ∷ []) line) (rw (f, r, c) refl) h))
        | inr c ↦ elim (cases_Bool (nat_eq b 92)) as (λ _. Splits (InText q y) line pre (b ∷ bs) all) [
          | inl e ↦
              let s = again (Escape q y) line pre all quoted (goes b bs all (in_mode pre (InText q y) line) (in_mode pre (Escape q y) line) (rw (f, r, c, e) refl) h) in
              record { ts = s.ts; all_are = s.all_are; spelled = escape_goes q y line b bs s.ts (eqb-true b 92 e) s.spelled }
          | inr e ↦
              let s = again (InText q (y ++ b ∷ [])) line pre all quoted (goes b bs all (in_mode pre (InText q y) line) (in_mode pre (InText q (y ++ b ∷ [])) line) (rw (f, r, c, e) refl) h) in
              let p : IsPlainIn q b = record { no_quote = eqb-false b q c; no_backslash = eqb-false b 92 e; no_line_feed = eqb-false b 10 f; no_return = eqb-false b 13 r } in
              let k : Closes q (y ++ b ∷ []) line bs s.ts = s.spelled in
              record { ts = s.ts; all_are = s.all_are; spelled = string_goes q b y line bs (b ∷ []) s.ts k (spells_plain b p k.spelled) }
        ]
      ]
    ]
  ]

  escape_by : (o : Option ℕ) → escaped b ≡ o → comes_to (in_mode pre (Escape q y) line) (b ∷ bs) ≡ Some all → Splits (Escape q y) line pre (b ∷ bs) all
  escape_by None e h = absurd (ends_here b bs all (in_mode pre (Escape q y) line) (ap (λ (o : Option ℕ). option_and_then (λ d. Some (in_mode pre (InText q (y ++ d ∷ [])) line)) o) e) h)
  escape_by (Some c) e h =
      let s = again (InText q (y ++ c ∷ [])) line pre all quoted (goes b bs all (in_mode pre (Escape q y) line) (in_mode pre (InText q (y ++ c ∷ [])) line) (escape_next q b c pre line y e) h) in
      record { ts = s.ts; all_are = s.all_are; spelled = record { b = b; c = c; after = bs; bytes = refl; stands = e; closes = s.spelled } }

one_splits : (b : ℕ) (bs : List ℕ) → Again bs → Again (b ∷ bs)
one_splits b bs again Between line pre all o h = between_splits b bs again line pre all h
one_splits b bs again Comment line pre all o h = comment_splits b bs again line pre all h
one_splits b bs again (InWord k w) line pre all o h = word_splits b bs again line pre all k w h
one_splits b bs again (InText q y) line pre all o h = string_splits b bs again line pre all q y o h
one_splits b bs again (Escape q y) line pre all o h = escape_by b bs again line pre all q y o (escaped b) refl h

splits : (bs : List ℕ) → Again bs
splits [] m line pre all o h = at_end m line pre all h
splits (b ∷ bs) m line pre all o h = one_splits b bs (splits bs) m line pre all o h

pub spelled_tokens : (text : List ℕ) (ts : List Token) → tokens text ≡ Some ts → IsTokens text 1 ts
spelled_tokens text ts h = let s = splits text Between 1 [] ts tt h in subst (IsTokens text 1) (sym s.all_are) s.spelled
