-- Bytes that are taken one after the other: words, strings and comments.
use Rattle.std.proofs.Common.{◌≡◌, ◌≢◌, ◌≤◌, ◌<◌, ◌+◌, ◌-◌, ◌^◌, ◌∙◌, sym, ap, refl, subst, inl, inr, ℕ, suc, Bool, true, false, List, [], ◌∷◌, ◌++◌, append_assoc, append-nil, length, length-append, Some, None, nat_eq, nat_lt, ◌||◌, take, drop, get_or, drop-cons, add-one, ◌⊎◌, arith}
use Rattle.std.proofs.lemmas.List.{take-append-drop, length-take-le, length-drop}
use Rattle.std.proofs.Math.Seq.{take-append-add, take-append_seam, take-length}
use Rattle.target_file.specs.declared.table.Rule.TheVariants.{WriteFile}
use Rattle.std.specs.List.{AllByRecursion}
use Rattle.target_file.specs.Tokens.{Word, Text, Mode, Between, Comment, InWord, InText, Escape, Scan, next, is_quote, is_letter, escaped}
use Rattle.target_file.specs.Machine.{State, Steps, first}
use Rattle.target_file.specs.Code.{bare, Stepped, Refuses, Takes, Took, Ran, Went, Stops, Fails, is_special, Means, IsBroken, HasNoEnd, Quoted}
use Rattle.target_file.specs.Files.{IsBad}
use Rattle.target_file.proofs.Held.{Held, cut_at, take_whole, held_ran, held_fails}
use Rattle.target_file.proofs.Spelling.{letter_next, quote_next, off}
use Rattle.target_file.proofs.Taking.{took_token, text_next, took_word, refused_word}
use Rattle.std.proofs.lemmas.Bool.{ne_eqb, eq-eqb, eqb-true, cases_Bool, ltb-true, ltb-false}

pub ran_append : (p q : List ℕ) (s u t : Scan) (m k e : State) → Ran s p m u k → Ran u q k t e → Ran s (p ++ q) m t e
ran_append [] q s u t m k e h g = subst (λ (x : Scan). Ran x q m t e) h.0 (subst (λ (x : State). Ran u q x t e) h.1 g)
ran_append (b ∷ p) q s u t m k e h g = (h.0, h.1, h.2, h.3, ran_append p q (bare h.0 h.1) u t h.2 k e h.4 g)

-- a byte that ends no token
pub quiet : (s : Scan) (b : ℕ) (m : State) (mode : Mode) (line : ℕ) → next s b ≡ Some (bare mode line) → Takes s b m (bare mode line) m
quiet s b m mode line n = record { out = []; next_is = n; runs = refl }

pub ran_one : (s : Scan) (b : ℕ) (m e : State) (mode : Mode) (line : ℕ) → Takes s b m (bare mode line) e → Ran s (b ∷ []) m (bare mode line) e
ran_one s b m e mode line h = (mode, line, e, h, (refl, refl))

pub went_one : (s : Scan) (b : ℕ) (bs : List ℕ) (m e : State) (mode : Mode) (line : ℕ) → Takes s b m (bare mode line) e → Went s (b ∷ bs) m 1 (bare mode line) e
went_one s b bs m e mode line h = record { front = b ∷ []; back = bs; bytes_are = refl; count_is = refl; some = omega arith; ran = ran_one s b m e mode line h }

pub fails_one : (b : ℕ) (bs : List ℕ) (m : State) (mode : Mode) (line : ℕ) → Refuses (bare mode line) b m → Fails (bare mode line) (b ∷ bs) m line
fails_one b bs m mode line h = inl (record { front = []; byte = b; back = bs; bytes_are = refl; mode = mode; state = m; ran = (refl, refl); refused = h })

-- words
letters_ran : (ws w : List ℕ) (line : ℕ) (m : State) → AllByRecursion (λ b. is_letter b ≡ true) ws → Ran (bare (InWord line w) line) ws m (bare (InWord line (w ++ ws)) line) m
letters_ran [] w line m h = (ap (λ (x : List ℕ). bare (InWord line x) line) (append-nil w), refl)
letters_ran (b ∷ ws) w line m h =
    let t : is_letter b ≡ true = h.0 in
    let n : next (bare (InWord line w) line) b ≡ Some (bare (InWord line (w ++ b ∷ [])) line) = rw t refl in (
      InWord line (w ++ b ∷ []),
      line,
      m,
      quiet (bare (InWord line w) line) b m (InWord line (w ++ b ∷ [])) line n,
      subst (λ (x : List ℕ). Ran (bare (InWord line (w ++ b ∷ [])) line) ws m (bare (InWord line x) line) m) (append_assoc w (b ∷ []) ws) (letters_ran ws (w ++ b ∷ []) line m h.1),
    )

pub word_ran : (w : List ℕ) (line : ℕ) (m : State) → 1 ≤ length w → AllByRecursion (λ b. is_letter b ≡ true) w → Ran (bare Between line) w m (bare (InWord line w) line) m
word_ran [] line m n h = absurd (omega arith)
word_ran (b ∷ w) line m n h = (
  InWord line (b ∷ []),
  line,
  m,
  quiet (bare Between line) b m (InWord line (b ∷ [])) line (letter_next [] line b h.0),
  letters_ran w (b ∷ []) line m h.1,
)

-- what goes on after a word that was taken goes on from within it
behind_word : (line b : ℕ) (w bs : List ℕ) (m k e : State) (t : Scan) → is_letter b ≡ false → Steps m (Word line w) k → Ran (bare Between line) (b ∷ bs) k t e → Ran (bare (InWord line w) line) (b ∷ bs) m t e
behind_word line b w bs m k e t f h r = (r.0, r.1, r.2, took_word line line b w m k r.2 (bare r.0 r.1) true f h r.3, r.4)

word_front : (front back bs : List ℕ) (line b : ℕ) (w : List ℕ) (m k e : State) (t : Scan) → is_letter b ≡ false → Steps m (Word line w) k →
    b ∷ bs ≡ front ++ back → 1 ≤ length front → Ran (bare Between line) front k t e → Ran (bare (InWord line w) line) front m t e
word_front [] back bs line b w m k e t f h c n r = absurd (omega arith)
word_front (d ∷ front) back bs line b w m k e t f h c n r =
    let i : b ≡ d = cc in behind_word line d w front m k e t (subst (λ (x : ℕ). is_letter x ≡ false) i f) h r

-- a word of these letters is taken
pub record TakesWord (line : ℕ) (w : List ℕ) (m k : State) : Type 0 where
  pub ran : Ran (bare Between line) w m (bare (InWord line w) line) m
  pub step : Steps m (Word line w) k

pub word_went : (line b : ℕ) (w bs : List ℕ) (m k e : State) (count : ℕ) (t : Scan) → TakesWord line w m k → is_letter b ≡ false → Went (bare Between line) (b ∷ bs) k count t e → Went (bare Between line) (w ++ b ∷ bs) m (length w + count) t e
word_went line b w bs m k e count t h f g =
    let c = g.count_is in
    let s = g.some in
    let l : length (w ++ g.front) ≡ length w + length g.front = length-append w g.front in
    let n : 1 ≤ length g.front = omega arith in
    record {
      front = w ++ g.front;
      back = g.back;
      bytes_are = ap (λ (x : List ℕ). w ++ x) g.bytes_are ∙ sym (append_assoc w g.front g.back);
      count_is = omega arith;
      some = omega arith;
      ran = ran_append w g.front (bare Between line) (bare (InWord line w) line) t m m e h.ran (word_front g.front g.back bs line b w m k e t f h.step g.bytes_are n g.ran);
    }

-- if the byte after a word is refused, or a later one
word_stops : (front back bs : List ℕ) (line n b byte : ℕ) (mode : Mode) (w : List ℕ) (m k e : State) → TakesWord line w m k → is_letter b ≡ false →
    b ∷ bs ≡ front ++ byte ∷ back → Ran (bare Between line) front k (bare mode n) e → Refuses (bare mode n) byte e → Stops (bare Between line) (w ++ b ∷ bs) m n
word_stops [] back bs line n b byte mode w m k e h f c r g =
    let i : byte ≡ b = cc in
    let l : n ≡ line = ap (λ (x : Scan). x.line) r.0 in
    let u : Refuses (bare Between line) byte e = subst (λ (x : Scan). Refuses x byte e) r.0 g in
    let v : Refuses (bare Between line) b k = subst (λ (x : ℕ). Refuses (bare Between line) x k) i (subst (λ (x : State). Refuses (bare Between line) byte x) r.1 u) in
    let z : Refuses (bare (InWord line w) line) b m = took_word line line b w m k k (bare Between line) false f h.step v in
    subst (λ (x : ℕ). Stops (bare Between line) (w ++ b ∷ bs) m x) (sym l)
    (record { front = w; byte = b; back = bs; bytes_are = refl; mode = InWord line w; state = m; ran = h.ran; refused = z })
word_stops (d ∷ front) back bs line n b byte mode w m k e h f c r g = record {
  front = w ++ d ∷ front;
  byte = byte;
  back = back;
  bytes_are = ap (λ (x : List ℕ). w ++ x) c ∙ sym (append_assoc w (d ∷ front) (byte ∷ back));
  mode = mode;
  state = e;
  ran = ran_append w (d ∷ front) (bare Between line) (bare (InWord line w) line) (bare mode n) m m e h.ran (word_front (d ∷ front) (byte ∷ back) bs line b w m k e (bare mode n) f h.step c (omega arith) r);
  refused = g;
}

pub word_fails : (line n b : ℕ) (w bs : List ℕ) (m k : State) → TakesWord line w m k → is_letter b ≡ false → Fails (bare Between line) (b ∷ bs) k n → Fails (bare Between line) (w ++ b ∷ bs) m n
word_fails line n b w bs m k h f (inl g) = inl (word_stops g.front g.back bs line n b g.byte g.mode w m k g.state h f g.bytes_are g.ran g.refused)
word_fails line n b w bs m k h f (inr g) = inr (record {
  mode = g.mode;
  state = g.state;
  ran = ran_append w (b ∷ bs) (bare Between line) (bare (InWord line w) line) (bare g.mode n) m m g.state h.ran (behind_word line b w bs m k g.state (bare g.mode n) f h.step g.ran);
  inside = g.inside;
})

-- a word that is refused, and one that does not end
pub word_refused : (line b : ℕ) (w bs : List ℕ) (m : State) → 1 ≤ length w → AllByRecursion (λ c. is_letter c ≡ true) w → is_letter b ≡ false → ((x : State) → Steps m (Word line w) x → ⊥) → Fails (bare Between line) (w ++ b ∷ bs) m line
word_refused line b w bs m n h f g = inl (record { front = w; byte = b; back = bs; bytes_are = refl; mode = InWord line w; state = m; ran = word_ran w line m n h; refused = refused_word line line b w m f g })

pub word_breaks : (line : ℕ) (w : List ℕ) (m : State) → 1 ≤ length w → AllByRecursion (λ c. is_letter c ≡ true) w → Fails (bare Between line) w m line
word_breaks line w m n h = inr (record { mode = InWord line w; state = m; ran = word_ran w line m n h; inside = λ x. x })

-- comments
pub comment_ran : (bs : List ℕ) (line : ℕ) (m : State) → AllByRecursion (λ b. b ≢ 10) bs → Ran (bare Comment line) bs m (bare Comment line) m
comment_ran [] line m h = (refl, refl)
comment_ran (b ∷ bs) line m h =
    let f : nat_eq b 10 ≡ false = ne_eqb b 10 h.0 in
    let n : next (bare Comment line) b ≡ Some (bare Comment line) = rw f refl in
    (Comment, line, m, quiet (bare Comment line) b m Comment line n, comment_ran bs line m h.1)

pub comment_went : (bs back all : List ℕ) (line : ℕ) (m : State) → AllByRecursion (λ b. b ≢ 10) bs → all ≡ bs ++ 10 ∷ back → Went (bare Comment line) all m (length bs + 1) (bare Between (line + 1)) m
comment_went bs back all line m h e =
    let n : next (bare Comment line) 10 ≡ Some (bare Between (line + 1)) = refl in
    let l : length (bs ++ 10 ∷ []) ≡ length bs + 1 = length-append bs (10 ∷ []) in
    record {
      front = bs ++ 10 ∷ [];
      back = back;
      bytes_are = e ∙ sym (append_assoc bs (10 ∷ []) back);
      count_is = l;
      some = omega arith;
      ran =
          ran_append bs (10 ∷ []) (bare Comment line) (bare Comment line) (bare Between (line + 1)) m m m (comment_ran bs line m h)
          (ran_one (bare Comment line) 10 m m Between (line + 1) (quiet (bare Comment line) 10 m Between (line + 1) n));
    }

pub comment_whole : (bs : List ℕ) (n line : ℕ) (m : State) → n ≡ length bs → 0 < length bs → AllByRecursion (λ b. b ≢ 10) bs → Went (bare Comment line) bs m n (bare Comment line) m
comment_whole bs n line m e l h = record { front = bs; back = []; bytes_are = sym (append-nil bs); count_is = sym e; some = omega arith; ran = comment_ran bs line m h }

pub comment_ended : (bs : List ℕ) (n line : ℕ) (m : State) → n < length bs → get_or bs n 0 ≡ 10 → AllByRecursion (λ b. b ≢ 10) (take n bs) → Went (bare Comment line) bs m (n + 1) (bare Between (line + 1)) m
comment_ended bs n line m h e k =
    let l : length (take n bs) ≡ n = length-take-le n bs (omega arith) in
    subst (λ (i : ℕ). Went (bare Comment line) bs m (i + 1) (bare Between (line + 1)) m) l
    (comment_went (take n bs) (drop (suc n) bs) bs line m k (cut_at bs n h ∙ ap (λ (x : ℕ). take n bs ++ x ∷ drop (suc n) bs) e))

pub below : (m n : ℕ) → m ≤ n → (m ≡ n → ⊥) → m < n
below m n h k = elim (cases_Bool (nat_lt m n)) [
  | inl t ↦ ltb-true m n t
  | inr f ↦ absurd (let g : n ≤ m = ltb-false m n f in k (omega arith))
]

-- strings
or_false : (a b : Bool) → (a || b) ≡ false → (a ≡ false) × (b ≡ false)
or_false true b h = cc
or_false false b h = (refl, h)

plain_next : (q b line : ℕ) (x : List ℕ) → is_special q b ≡ false → next (bare (InText q x) line) b ≡ Some (bare (InText q (x ++ b ∷ [])) line)
plain_next q b line x h =
    let k = or_false (nat_eq b 10 || nat_eq b 13) (nat_eq b q || nat_eq b 92) h in
    let l = or_false (nat_eq b q) (nat_eq b 92) k.1 in
    rw (k.0, l.0, l.1) refl

pub plain_ran : (bs x : List ℕ) (q line : ℕ) (m : State) → AllByRecursion (λ b. is_special q b ≡ false) bs → Ran (bare (InText q x) line) bs m (bare (InText q (x ++ bs)) line) m
plain_ran [] x q line m h = (ap (λ (y : List ℕ). bare (InText q y) line) (append-nil x), refl)
plain_ran (b ∷ bs) x q line m h = (
  InText q (x ++ b ∷ []),
  line,
  m,
  quiet (bare (InText q x) line) b m (InText q (x ++ b ∷ [])) line (plain_next q b line x h.0),
  subst (λ (y : List ℕ). Ran (bare (InText q (x ++ b ∷ [])) line) bs m (bare (InText q y) line) m) (append_assoc x (b ∷ []) bs) (plain_ran bs (x ++ b ∷ []) q line m h.1),
)

-- a string without escapes
pub plain_quoted : (q : ℕ) (bs all back : List ℕ) → AllByRecursion (λ b. is_special q b ≡ false) bs → all ≡ bs ++ q ∷ back → Quoted q all bs (length bs)
plain_quoted q bs all back h e = record { front = bs; back = back; bytes_are = e; count_is = refl; ran = λ line m. plain_ran bs [] q line m h }

-- a byte of a string: what it stands for, alone or with the next one
pub means_itself : (q b : ℕ) (bs : List ℕ) → (nat_eq b 10 || nat_eq b 13) ≡ false → nat_eq b 92 ≡ false → nat_eq b q ≡ false → Means q (b ∷ bs) b 1
means_itself q b bs h k n text line m =
    let e : next (bare (InText q text) line) b ≡ Some (bare (InText q (text ++ b ∷ [])) line) = rw (h, n, k) refl in
    went_one (bare (InText q text) line) b bs m m (InText q (text ++ b ∷ [])) line (quiet (bare (InText q text) line) b m (InText q (text ++ b ∷ [])) line e)

pub broken_line : (q b : ℕ) (bs : List ℕ) → (nat_eq b 10 || nat_eq b 13) ≡ true → IsBroken q (b ∷ bs)
broken_line q b bs h text line m = let e : next (bare (InText q text) line) b ≡ None = rw h refl in fails_one b bs m (InText q text) line (inl e)

-- after a backslash
slash_next : (q b line : ℕ) (x : List ℕ) → nat_eq b 92 ≡ true → nat_eq b q ≡ false → next (bare (InText q x) line) b ≡ Some (bare (Escape q x) line)
slash_next q b line x h n = let e : b ≡ 92 = eqb-true b 92 h in let g : (nat_eq b 10 || nat_eq b 13) ≡ false = subst (λ (c : ℕ). (nat_eq c 10 || nat_eq c 13) ≡ false) (sym e) refl in rw (g, n, h) refl

slash_ran : (q b line : ℕ) (x : List ℕ) (m : State) → nat_eq b 92 ≡ true → nat_eq b q ≡ false → Ran (bare (InText q x) line) (b ∷ []) m (bare (Escape q x) line) m
slash_ran q b line x m h n = ran_one (bare (InText q x) line) b m m (Escape q x) line (quiet (bare (InText q x) line) b m (Escape q x) line (slash_next q b line x h n))

pub means_escaped : (q b c d : ℕ) (bs : List ℕ) → nat_eq b 92 ≡ true → escaped c ≡ Some d → nat_eq b q ≡ false → Means q (b ∷ c ∷ bs) d 2
means_escaped q b c d bs h k n text line m =
    let e : next (bare (Escape q text) line) c ≡ Some (bare (InText q (text ++ d ∷ [])) line) = rw k refl in
    record {
      front = b ∷ c ∷ [];
      back = bs;
      bytes_are = refl;
      count_is = refl;
      some = omega arith;
      ran =
          ran_append (b ∷ []) (c ∷ []) (bare (InText q text) line) (bare (Escape q text) line) (bare (InText q (text ++ d ∷ [])) line) m m m (slash_ran q b line text m h n)
          (ran_one (bare (Escape q text) line) c m m (InText q (text ++ d ∷ [])) line (quiet (bare (Escape q text) line) c m (InText q (text ++ d ∷ [])) line e));
    }

pub broken_escape : (q b c : ℕ) (bs : List ℕ) → nat_eq b 92 ≡ true → escaped c ≡ None → nat_eq b q ≡ false → IsBroken q (b ∷ c ∷ bs)
broken_escape q b c bs h k n text line m =
    let e : next (bare (Escape q text) line) c ≡ None = rw k refl in
    inl (record { front = b ∷ []; byte = c; back = bs; bytes_are = refl; mode = Escape q text; state = m; ran = slash_ran q b line text m h n; refused = inl e })

pub broken_slash : (q b : ℕ) → nat_eq b 92 ≡ true → nat_eq b q ≡ false → IsBroken q (b ∷ [])
broken_slash q b h n text line m = inr (record { mode = Escape q text; state = m; ran = slash_ran q b line text m h n; inside = λ x. x })

-- what goes wrong after bytes that were taken goes wrong after all
pub fails_behind : (p bs : List ℕ) (s u : Scan) (m k : State) (line : ℕ) → Ran s p m u k → Fails u bs k line → Fails s (p ++ bs) m line
fails_behind p bs s u m k line r (inl g) = inl (record {
  front = p ++ g.front;
  byte = g.byte;
  back = g.back;
  bytes_are = ap (λ (x : List ℕ). p ++ x) g.bytes_are ∙ sym (append_assoc p g.front (g.byte ∷ g.back));
  mode = g.mode;
  state = g.state;
  ran = ran_append p g.front s u (bare g.mode line) m k g.state r g.ran;
  refused = g.refused;
})
fails_behind p bs s u m k line r (inr g) = inr (record { mode = g.mode; state = g.state; ran = ran_append p bs s u (bare g.mode line) m k g.state r g.ran; inside = g.inside })

-- a string from its first quote on
quote_ran : (q line : ℕ) (m : State) → is_quote q ≡ true → Ran (bare Between line) (q ∷ []) m (bare (InText q []) line) m
quote_ran q line m h = ran_one (bare Between line) q m m (InText q []) line (quiet (bare Between line) q m (InText q []) line (quote_next [] line q h))

pub string_broken : (q line : ℕ) (bs : List ℕ) (m : State) → is_quote q ≡ true → HasNoEnd q bs → Fails (bare Between line) (q ∷ bs) m line
string_broken q line bs m h b = fails_behind (q ∷ []) bs (bare Between line) (bare (InText q []) line) m m line (quote_ran q line m h) (b line m)

no_line_end : (q : ℕ) → is_quote q ≡ true → (nat_eq q 10 || nat_eq q 13) ≡ false
no_line_end q h = let a = off is_quote q 10 h refl in let c = off is_quote q 13 h refl in rw (a, c) refl

string_front : (q line : ℕ) (bs text : List ℕ) (count : ℕ) (m : State) (g : Quoted q bs text count) → is_quote q ≡ true → Ran (bare Between line) (q ∷ g.front) m (bare (InText q text) line) m
string_front q line bs text count m g h = ran_append (q ∷ []) g.front (bare Between line) (bare (InText q []) line) (bare (InText q text) line) m m m (quote_ran q line m h) (g.ran line m)

ends_text : (q line : ℕ) (text : List ℕ) (m e : State) (ok : Bool) → is_quote q ≡ true → Stepped m (Text text) ok e → Took (bare (InText q text) line) q m ok (bare Between line) e
ends_text q line text m e ok h k = took_token (bare (InText q text) line) q m e (Text text) Between line ok (text_next line q q text (no_line_end q h) (eq-eqb q q refl)) k

pub string_went : (q line : ℕ) (bs text : List ℕ) (count : ℕ) (m e : State) → is_quote q ≡ true → Quoted q bs text count → Stepped m (Text text) true e → Went (bare Between line) (q ∷ bs) m (count + 2) (bare Between line) e
string_went q line bs text count m e h g k =
    let c = g.count_is in
    let l = length-append (q ∷ g.front) (q ∷ []) in
    record {
      front = (q ∷ g.front) ++ q ∷ [];
      back = g.back;
      bytes_are = ap (λ (x : List ℕ). q ∷ x) g.bytes_are ∙ sym (append_assoc (q ∷ g.front) (q ∷ []) g.back);
      count_is = omega arith;
      some = omega arith;
      ran =
          ran_append (q ∷ g.front) (q ∷ []) (bare Between line) (bare (InText q text) line) (bare Between line) m m e (string_front q line bs text count m g h)
          (ran_one (bare (InText q text) line) q m e Between line (ends_text q line text m e true h k));
    }

pub string_refused : (q line : ℕ) (bs text : List ℕ) (count : ℕ) (m e : State) → is_quote q ≡ true → Quoted q bs text count → Stepped m (Text text) false e → Fails (bare Between line) (q ∷ bs) m line
string_refused q line bs text count m e h g k = inl (record {
  front = q ∷ g.front;
  byte = q;
  back = g.back;
  bytes_are = ap (λ (x : List ℕ). q ∷ x) g.bytes_are;
  mode = InText q text;
  state = m;
  ran = string_front q line bs text count m g h;
  refused = ends_text q line text m e false h k;
})

-- the same, of the bytes after the first one
head_is : (bs : List ℕ) → (length bs ≡ 0 → ⊥) → bs ≡ get_or bs 0 0 ∷ drop 1 bs
head_is [] n = absurd (n refl)
head_is (b ∷ bs) n = refl

line_end_by : (b : ℕ) → (b ≡ 10) ⊎ ((b ≡ 10 → ⊥) × (b ≡ 13)) → (nat_eq b 10 || nat_eq b 13) ≡ true
line_end_by b (inl e) = subst (λ (c : ℕ). (nat_eq c 10 || nat_eq c 13) ≡ true) (sym e) refl
line_end_by b (inr e) = subst (λ (c : ℕ). (nat_eq c 10 || nat_eq c 13) ≡ true) (sym e.1) refl

pub broken_at_end : (q b : ℕ) (bs : List ℕ) → (b ≡ 10) ⊎ ((b ≡ 10 → ⊥) × (b ≡ 13)) → IsBroken q (b ∷ bs)
broken_at_end q b bs h = broken_line q b bs (line_end_by b h)

is_slash : (b : ℕ) → b ≡ 92 → nat_eq b 92 ≡ true
is_slash b e = eq-eqb b 92 e

pub broken_at_slash : (q b : ℕ) (bs : List ℕ) → b ≡ 92 → length bs ≡ 0 → nat_eq b q ≡ false → IsBroken q (b ∷ bs)
broken_at_slash q b [] e l n = broken_slash q b (is_slash b e) n
broken_at_slash q b (c ∷ bs) e l n = absurd (omega arith)

pub means_behind : (q b d : ℕ) (bs : List ℕ) → b ≡ 92 → (length bs ≡ 0 → ⊥) → escaped (get_or bs 0 0) ≡ Some d → nat_eq b q ≡ false → Means q (b ∷ bs) d 2
means_behind q b d bs e l k n =
    subst (λ (x : List ℕ). Means q (b ∷ x) d 2) (sym (head_is bs l)) (means_escaped q b (get_or bs 0 0) d (drop 1 bs) (is_slash b e) k n)

pub broken_behind : (q b : ℕ) (bs : List ℕ) → b ≡ 92 → (length bs ≡ 0 → ⊥) → escaped (get_or bs 0 0) ≡ None → nat_eq b q ≡ false → IsBroken q (b ∷ bs)
broken_behind q b bs e l k n =
    subst (λ (x : List ℕ). IsBroken q (b ∷ x)) (sym (head_is bs l)) (broken_escape q b (get_or bs 0 0) (drop 1 bs) (is_slash b e) k n)

-- what stands in front after a part
pub took_front : (bs : List ℕ) (at count : ℕ) (front back : List ℕ) → at ≤ length bs → drop at bs ≡ front ++ back → length front ≡ count → take (at + count) bs ≡ take at bs ++ front
took_front bs at count front back h e c =
    let l : length (take at bs) ≡ at = length-take-le at bs h in
    let whole : take at bs ++ (front ++ back) ≡ bs = ap (λ (x : List ℕ). take at bs ++ x) (sym e) ∙ take-append-drop at bs in
    let n : at + count ≡ length (take at bs) + length front = omega arith in
    ap (λ (k : ℕ). take k bs) n ∙ ap (λ (x : List ℕ). take (length (take at bs) + length front) x) (sym whole)
    ∙ take-append-add (take at bs) (front ++ back) (length front) ∙ ap (λ (x : List ℕ). take at bs ++ x) (take-append_seam front back)

pub took_fits : (bs : List ℕ) (at count : ℕ) (front back : List ℕ) → at ≤ length bs → drop at bs ≡ front ++ back → length front ≡ count → at + count ≤ length bs
took_fits bs at count front back h e c =
    let l : length (take at bs) ≡ at = length-take-le at bs h in
    let whole : take at bs ++ (front ++ back) ≡ bs = ap (λ (x : List ℕ). take at bs ++ x) (sym e) ∙ take-append-drop at bs in
    let a = ap length whole in
    let b = length-append (take at bs) (front ++ back) in
    let d = length-append front back in
    omega arith

nothing : State
nothing = first WriteFile

pub slice_is : (bs : List ℕ) (at : ℕ) → take (length bs - at) (drop at bs) ≡ drop at bs
slice_is bs at = ap (λ (n : ℕ). take n (drop at bs)) (sym (length-drop at bs)) ∙ take-length (drop at bs)

pub rest_is : (bs : List ℕ) (at : ℕ) → at < length bs → drop at bs ≡ get_or bs at 0 ∷ take (length bs - (at + 1)) (drop (at + 1) bs)
rest_is bs at h =
    drop-cons bs at 0 h ∙ ap (λ (n : ℕ). get_or bs at 0 ∷ drop n bs) (sym (add-one at)) ∙ ap (λ (r : List ℕ). get_or bs at 0 ∷ r) (sym (slice_is bs (at + 1)))

pub means_some : (q c : ℕ) (bs : List ℕ) (count : ℕ) → Means q bs c count → 1 ≤ count
means_some q c bs count g = (g [] 0 nothing).some

-- a byte of a string after those that were read
pub text_more : (q : ℕ) (bs text : List ℕ) (c at count : ℕ) → at ≤ length bs → Means q (drop at bs) c count → ((line : ℕ) (m : State) → Ran (bare (InText q []) line) (take at bs) m (bare (InText q text) line) m) →
    (at + count ≤ length bs) × ((line : ℕ) (m : State) → Ran (bare (InText q []) line) (take (at + count) bs) m (bare (InText q (text ++ c ∷ [])) line) m)
text_more q bs text c at count h g r =
    let w = g text 0 nothing in (
      took_fits bs at count w.front w.back h w.bytes_are w.count_is,
      λ line m.
          let v = g text line m in
          subst (λ (x : List ℕ). Ran (bare (InText q []) line) x m (bare (InText q (text ++ c ∷ [])) line) m) (sym (took_front bs at count v.front v.back h v.bytes_are v.count_is))
          (ran_append (take at bs) v.front (bare (InText q []) line) (bare (InText q text) line) (bare (InText q (text ++ c ∷ [])) line) m m m (r line m) v.ran),
    )

pub text_broken : (q : ℕ) (bs text : List ℕ) (at : ℕ) → IsBroken q (drop at bs) → ((line : ℕ) (m : State) → Ran (bare (InText q []) line) (take at bs) m (bare (InText q text) line) m) → HasNoEnd q bs
text_broken q bs text at b r line m =
    subst (λ (x : List ℕ). Fails (bare (InText q []) line) x m line) (take-append-drop at bs)
    (fails_behind (take at bs) (drop at bs) (bare (InText q []) line) (bare (InText q text) line) m m line (r line m) (b text line m))

-- at the end of the bytes, and at the quote that ends the string
pub text_whole : (q : ℕ) (bs text : List ℕ) (at : ℕ) → at ≤ length bs → length bs ≤ at → ((line : ℕ) (m : State) → Ran (bare (InText q []) line) (take at bs) m (bare (InText q text) line) m) → HasNoEnd q bs
text_whole q bs text at h k r line m = inr (record {
  mode = InText q text;
  state = m;
  ran = subst (λ (x : List ℕ). Ran (bare (InText q []) line) x m (bare (InText q text) line) m) (take_whole bs at h k) (r line m);
  inside = λ x. x;
})

pub text_ended : (q : ℕ) (bs text : List ℕ) (at b : ℕ) → at < length bs → b ≡ get_or bs at 0 → b ≡ q → ((line : ℕ) (m : State) → Ran (bare (InText q []) line) (take at bs) m (bare (InText q text) line) m) → Quoted q bs text at
text_ended q bs text at b h e i r =
    let l : length (take at bs) ≡ at = length-take-le at bs (omega arith) in
    record { front = take at bs; back = drop (suc at) bs; bytes_are = cut_at bs at h ∙ ap (λ (x : ℕ). take at bs ++ x ∷ drop (suc at) bs) (sym e ∙ i); count_is = l; ran = r }

pub quote_behind : (q : ℕ) (bs : List ℕ) (at : ℕ) → at < length bs → get_or bs at 0 ≡ q → AllByRecursion (λ b. is_special q b ≡ false) (take at bs) → Quoted q bs (take at bs) at
quote_behind q bs at h e p =
    let g = plain_quoted q (take at bs) bs (drop (suc at) bs) p (cut_at bs at h ∙ ap (λ (x : ℕ). take at bs ++ x ∷ drop (suc at) bs) e) in
    let l : length (take at bs) ≡ at = length-take-le at bs (omega arith) in
    subst (λ (n : ℕ). Quoted q bs (take at bs) n) l g

-- a word in front, and what stands after it
pub word_at : (bs : List ℕ) (n : ℕ) → n < length bs → bs ≡ take n bs ++ get_or bs n 0 ∷ take (length bs - (n + 1)) (drop (n + 1) bs)
word_at bs n h = sym (take-append-drop n bs) ∙ ap (λ (r : List ℕ). take n bs ++ r) (rest_is bs n h)

-- a word that is taken, with what goes on after it
pub word_goes : (line n : ℕ) (bs : List ℕ) (m k : State) → 1 ≤ n → n < length bs → AllByRecursion (λ c. is_letter c ≡ true) (take n bs) → is_letter (get_or bs n 0) ≡ false → Steps m (Word line (take n bs)) k →
    (count : ℕ) (t : Scan) (e : State) → Went (bare Between line) (get_or bs n 0 ∷ take (length bs - (n + 1)) (drop (n + 1) bs)) k count t e → Went (bare Between line) bs m (n + count) t e
word_goes line n bs m k s h p f w count t e g =
    let l : length (take n bs) ≡ n = length-take-le n bs (omega arith) in
    let o : 1 ≤ length (take n bs) = omega arith in
    let a = word_went line (get_or bs n 0) (take n bs) (take (length bs - (n + 1)) (drop (n + 1) bs)) m k e count t (record { ran = word_ran (take n bs) line m o p; step = w }) f g in
    subst (λ (x : List ℕ). Went (bare Between line) x m (n + count) t e) (sym (word_at bs n h))
    (subst (λ (i : ℕ). Went (bare Between line) (take n bs ++ get_or bs n 0 ∷ take (length bs - (n + 1)) (drop (n + 1) bs)) m (i + count) t e) l a)

pub word_stuck : (line n : ℕ) (bs : List ℕ) (m k : State) → 1 ≤ n → n < length bs → AllByRecursion (λ c. is_letter c ≡ true) (take n bs) → is_letter (get_or bs n 0) ≡ false → Steps m (Word line (take n bs)) k →
    Fails (bare Between line) (get_or bs n 0 ∷ take (length bs - (n + 1)) (drop (n + 1) bs)) k line → Fails (bare Between line) bs m line
word_stuck line n bs m k s h p f w g =
    let l : length (take n bs) ≡ n = length-take-le n bs (omega arith) in
    let o : 1 ≤ length (take n bs) = omega arith in
    subst (λ (x : List ℕ). Fails (bare Between line) x m line) (sym (word_at bs n h))
    (word_fails line line (get_or bs n 0) (take n bs) (take (length bs - (n + 1)) (drop (n + 1) bs)) m k (record { ran = word_ran (take n bs) line m o p; step = w }) f g)

pub word_bad : (line n : ℕ) (bs : List ℕ) (m : State) → 1 ≤ n → n < length bs → AllByRecursion (λ c. is_letter c ≡ true) (take n bs) → is_letter (get_or bs n 0) ≡ false → ((x : State) → Steps m (Word line (take n bs)) x → ⊥) → Fails (bare Between line) bs m line
word_bad line n bs m s h p f w =
    let l : length (take n bs) ≡ n = length-take-le n bs (omega arith) in
    let o : 1 ≤ length (take n bs) = omega arith in
    subst (λ (x : List ℕ). Fails (bare Between line) x m line) (sym (word_at bs n h))
    (word_refused line (get_or bs n 0) (take n bs) (take (length bs - (n + 1)) (drop (n + 1) bs)) m o p f w)

pub word_open : (line n : ℕ) (bs : List ℕ) (m : State) → 0 < length bs → n ≡ length bs → AllByRecursion (λ c. is_letter c ≡ true) (take n bs) → Fails (bare Between line) bs m line
word_open line n bs m h e p = word_breaks line bs m (omega arith) (subst (λ (x : List ℕ). AllByRecursion (λ c. is_letter c ≡ true) x) (take_whole bs n (omega arith) (omega arith)) p)

pub went_fits : (s : Scan) (bs : List ℕ) (m : State) (count : ℕ) (t : Scan) (e : State) → Went s bs m count t e → count ≤ length bs
went_fits s bs m count t e g = let a = ap length g.bytes_are in let b = length-append g.front g.back in let c = g.count_is in omega arith

-- a reader that goes on, and one that does not
pub held_went : (bs : List ℕ) (at count : ℕ) (s t : Scan) (m e : State) → length bs < 2 ^ 64 → at ≤ length bs → Held (take at bs) s m → Went s (drop at bs) m count t e → (at + count ≤ length bs) × (1 ≤ count) × Held (take (at + count) bs) t e
held_went bs at count s t m e n h k g =
    let f : at + count ≤ length bs = took_fits bs at count g.front g.back h g.bytes_are g.count_is in
    let w : take (at + count) bs ≡ take at bs ++ g.front = took_front bs at count g.front g.back h g.bytes_are g.count_is in
    let l : length (take (at + count) bs) ≡ at + count = length-take-le (at + count) bs f in
    let o : length (take at bs ++ g.front) < 2 ^ 64 = let i = ap length w in omega arith in
    (f, g.some, subst (λ (x : List ℕ). Held x t e) (sym w) (held_ran (take at bs) g.front s t m e o k g.ran))

pub held_fails_at : (bs : List ℕ) (at : ℕ) (s : Scan) (m : State) (line : ℕ) → length bs < 2 ^ 64 → Held (take at bs) s m → Fails s (drop at bs) m line → IsBad bs line
held_fails_at bs at s m line n h g = held_fails bs (take at bs) (drop at bs) s m line n (sym (take-append-drop at bs)) h g
