-- Dead prefixes, live prefixes, and the line of a fault.
use Rattle.std.proofs.Common.{◌≡◌, ◌<◌, ◌+◌, ◌∙◌, sym, ap, refl, subst, ℕ, true, false, List, [], ◌∷◌, ◌++◌, append_assoc, append-nil, Option, Some, None, nat_eq, length, ◌||◌}
use Rattle.std.specs.Option.{option_and_then}
use Rattle.std.specs.List.{AllByRecursion}
use Rattle.target_file.specs.declared.table.Rule.{Rule}
use Rattle.target_file.specs.declared.place.Place.TheVariants as at
use Rattle.target_file.specs.Tokens.{Token, Word, Text, Mark, Mode, Between, Comment, InWord, InText, Escape, Scan, next_in, scan, start, ended, tokens, is_letter}
use Rattle.target_file.specs.Calls.{Call, AreCalls}
use Rattle.target_file.specs.Files.{names, IsWritten, IsDead}
use Rattle.target_file.specs.Machine.{State, Runs, first}
use Rattle.target_file.proofs.Runs.{one_run, runs_split, runs_join}
use Rattle.target_file.proofs.Spelled.{Spelled, SpelledAt, spelled_run}
use Rattle.target_file.proofs.Complete.{accepted}
use Rattle.target_file.proofs.Fresh.{doubled}
use Rattle.target_file.proofs.Live.{live, IsPlain, is_plain}
use Rattle.target_file.proofs.Prefixes.{scan_append, extends}
use Rattle.target_file.proofs.Spelling.{at_line, off, letter_next, mark_next, read_tokens, spelled_tokens}
use Rattle.target_file.specs.Code.{IsOpen}
use Rattle.lists.proofs.Options.{chained}

ended_more : (m : Mode) (ts out : List Token) → ended m ts ≡ Some out → (more : List Token) × (out ≡ ts ++ more)
ended_more Between ts out e = let h : ts ≡ out = cc in ([], sym h ∙ sym (append-nil ts))
ended_more Comment ts out e = let h : ts ≡ out = cc in ([], sym h ∙ sym (append-nil ts))
ended_more (InWord l w) ts out e = let h : ts ++ Word l w ∷ [] ≡ out = cc in (Word l w ∷ [], sym h)
ended_more (InText q x) ts out e = cc
ended_more (Escape q x) ts out e = cc

-- no run leads on from these tokens
abbrev pub Stuck : Rule → List Token → Type 0
Stuck r ts = (more : List Token) (e : State) → Runs (first r) (ts ++ more) e → ⊥

-- a byte that no text may have here
pub dead_byte : (p : List ℕ) → scan start p ≡ None → IsDead p
dead_byte p h more calls f =
    let a = chained (λ s. ended s.mode s.tokens) (scan start (p ++ more)) f.made_of (read_tokens (p ++ more) f.made_of f.tokens_are) in
    let b : option_and_then (λ t. scan t more) (scan start p) ≡ Some a.0 = sym (scan_append p more start) ∙ a.1 in
    let c : option_and_then (λ t. scan t more) None ≡ Some a.0 = subst (λ (o : Option Scan). option_and_then (λ t. scan t more) o ≡ Some a.0) h b in
    cc

-- a token that no file may have here
pub dead_token : (r : Rule) (p : List ℕ) (s : Scan) → scan start p ≡ Some s → Stuck r s.tokens → IsDead p
dead_token r p s h k more calls f =
    let a = chained (λ s. ended s.mode s.tokens) (scan start (p ++ more)) f.made_of (read_tokens (p ++ more) f.made_of f.tokens_are) in
    let b : option_and_then (λ t. scan t more) (scan start p) ≡ Some a.0 = sym (scan_append p more start) ∙ a.1 in
    let c : scan s more ≡ Some a.0 = subst (λ (o : Option Scan). option_and_then (λ t. scan t more) o ≡ Some a.0) h b in
    let d = extends more s a.0 c in
    let g = ended_more a.0.mode a.0.tokens f.made_of a.2 in
    let t : f.made_of ≡ s.tokens ++ (d.0 ++ g.0) = g.1 ∙ ap (λ (z : List Token). z ++ g.0) d.1 ∙ append_assoc s.tokens d.0 g.0 in
    let e = accepted r f.made_of calls f.calls_are f.each f.once in
    k (d.0 ++ g.0) e.end (subst (λ (z : List Token). Runs (first r) z e.end) t e.runs)

-- if one token is refused, nothing leads on
pub stuck : (r : Rule) (ts new : List Token) (m : State) → Runs (first r) ts m → ((e : State) → Runs m new e → ⊥) → Stuck r (ts ++ new)
stuck r ts new m h k more e g =
    let a = runs_split ts (new ++ more) (first r) e (subst (λ (z : List Token). Runs (first r) z e) (append_assoc ts new more) g) in
    let b = runs_split new more a.0 e a.2 in
    k b.0 (subst (λ (z : State). Runs z new b.0) (one_run ts (first r) a.0 m a.1 h) b.1)

-- what a machine at its top has read is a file
spelled_first : (r : Rule) → Spelled [] (first r)
spelled_first r = record { front = []; back = []; tokens_are = refl; calls_are = refl; each = tt; once = tt; here = refl }

top_back : (p : _) (s : State) (back : List Token) → p ≡ at.Top → SpelledAt p s back → back ≡ []
top_back p s back e h = let k : SpelledAt at.Top s back = subst (λ (q : _). SpelledAt q s back) e h in k

pub file_of : (r : Rule) (text : List ℕ) (ts : List Token) (e : State) → tokens text ≡ Some ts → Runs (first r) ts e → e.place ≡ at.Top → IsWritten text e.calls
file_of r text ts e h k t =
    let f = spelled_run ts [] (first r) e (spelled_first r) k in
    let b : f.back ≡ [] = top_back e.place e f.back t f.here in
    let w : ts ≡ f.front = f.tokens_are ∙ ap (λ (z : List Token). f.front ++ z) b ∙ append-nil f.front in
    record { made_of = ts; tokens_are = spelled_tokens text ts h; calls_are = subst (λ (z : List Token). AreCalls z e.calls) (sym w) f.calls_are; each = f.each; once = f.once }

-- how plain tokens are written
abbrev pub written : Token → List ℕ
written (Word l w) = w ++ 32 ∷ []
written (Text x) = 34 ∷ (x ++ 34 ∷ [])
written (Mark m) = m ∷ []

abbrev pub all_written : List Token → List ℕ
all_written [] = []
all_written (t ∷ ts) = written t ++ all_written ts

line_end : (b : ℕ) → is_plain b ≡ true → (nat_eq b 10 || nat_eq b 13) ≡ false
line_end b h = let a = off is_plain b 10 h refl in let c = off is_plain b 13 h refl in rw (a, c) refl

-- the letters of a word after the first
word_scan : (bs : List ℕ) (ts : List Token) (line : ℕ) (w rest : List ℕ) → AllByRecursion (λ b. is_letter b ≡ true) bs →
    scan (record { tokens = ts; mode = InWord line w; line = line }) (bs ++ 32 ∷ rest) ≡ scan (at_line (ts ++ Word line (w ++ bs) ∷ []) line) rest
word_scan [] ts line w rest h = ap (λ (x : List ℕ). scan (at_line (ts ++ Word line x ∷ []) line) rest) (sym (append-nil w))
word_scan (b ∷ bs) ts line w rest h =
    let k : is_letter b ≡ true = h.0 in
    rw k (word_scan bs ts line (w ++ b ∷ []) rest h.1 ∙ ap (λ (x : List ℕ). scan (at_line (ts ++ Word line x ∷ []) line) rest) (append_assoc w (b ∷ []) bs))

text_scan : (x : List ℕ) (ts : List Token) (line : ℕ) (y rest : List ℕ) → AllByRecursion (λ b. is_plain b ≡ true) x →
    scan (record { tokens = ts; mode = InText 34 y; line = line }) (x ++ 34 ∷ rest) ≡ scan (at_line (ts ++ Text (y ++ x) ∷ []) line) rest
text_scan [] ts line y rest h = ap (λ (x : List ℕ). scan (at_line (ts ++ Text x ∷ []) line) rest) (sym (append-nil y))
text_scan (b ∷ x) ts line y rest h =
    let a = off is_plain b 34 h.0 refl in let c = off is_plain b 92 h.0 refl in let d = line_end b h.0 in
    rw (d, a, c) (text_scan x ts line (y ++ b ∷ []) rest h.1 ∙ ap (λ (z : List ℕ). scan (at_line (ts ++ Text z ∷ []) line) rest) (append_assoc y (b ∷ []) x))

one_written : (t : Token) (ts : List Token) (line : ℕ) (rest : List ℕ) → IsPlain line t → scan (at_line ts line) (written t ++ rest) ≡ scan (at_line (ts ++ t ∷ []) line) rest
one_written (Word l []) ts line rest p = absurd p
one_written (Word l (b ∷ bs)) ts line rest p =
    ap (λ (o : Option Scan). option_and_then (λ t. scan t ((bs ++ 32 ∷ []) ++ rest)) o) (letter_next ts line b p.1.0)
    ∙ ap (scan (record { tokens = ts; mode = InWord line (b ∷ []); line = line })) (append_assoc bs (32 ∷ []) rest)
    ∙ word_scan bs ts line (b ∷ []) rest p.1.1
    ∙ ap (λ (n : ℕ). scan (at_line (ts ++ Word n (b ∷ bs) ∷ []) line) rest) (sym p.0)
one_written (Text x) ts line rest p =
    ap (scan (record { tokens = ts; mode = InText 34 []; line = line })) (append_assoc x (34 ∷ []) rest) ∙ text_scan x ts line [] rest p
one_written (Mark m) ts line rest p = ap (λ (o : Option Scan). option_and_then (λ t. scan t rest) o) (mark_next ts line m p)

-- what is written is read back
written_read : (more ts : List Token) (line : ℕ) → AllByRecursion (IsPlain line) more → scan (at_line ts line) (all_written more) ≡ Some (at_line (ts ++ more) line)
written_read [] ts line p = ap (λ (z : List Token). Some (at_line z line)) (sym (append-nil ts))
written_read (t ∷ more) ts line p =
    one_written t ts line (all_written more) p.0 ∙ written_read more (ts ++ t ∷ []) line p.1 ∙ ap (λ (z : List Token). Some (at_line z line)) (append_assoc ts (t ∷ []) more)

line_feed : (m : Mode) (ts : List Token) (line : ℕ) → IsOpen m → next_in m (record { tokens = ts; mode = m; line = line }) 10 ≡ Some (at_line ts (line + 1))
line_feed Between ts line h = refl
line_feed Comment ts line h = refl
line_feed (InWord l w) ts line h = absurd h
line_feed (InText q x) ts line h = absurd h
line_feed (Escape q x) ts line h = absurd h

-- some file begins with it
pub record IsLive (prefix : List ℕ) : Type 0 where
  pub more : List ℕ
  pub calls : List Call
  pub file : IsWritten (prefix ++ more) calls

live_tokens : (p : List ℕ) (s : Scan) (more : List Token) → scan start p ≡ Some s → IsOpen s.mode → AllByRecursion (IsPlain (s.line + 1)) more → tokens (p ++ 10 ∷ all_written more) ≡ Some (s.tokens ++ more)
live_tokens p s more h o k =
    let a : scan start (p ++ 10 ∷ all_written more) ≡ scan s (10 ∷ all_written more) = scan_append p (10 ∷ all_written more) start ∙ ap (λ (x : Option Scan). option_and_then (λ t. scan t (10 ∷ all_written more)) x) h in
    let b : scan s (10 ∷ all_written more) ≡ scan (at_line s.tokens (s.line + 1)) (all_written more) = ap (λ (x : Option Scan). option_and_then (λ t. scan t (all_written more)) x) (line_feed s.mode s.tokens s.line o) in
    ap (λ (x : Option Scan). option_and_then (λ s. ended s.mode s.tokens) x) (a ∙ b ∙ written_read more s.tokens (s.line + 1) k)

-- What the machine has read, outside words and strings, begins some file.
pub live_prefix : (r : Rule) (p : List ℕ) (s : Scan) (m : State) → scan start p ≡ Some s → IsOpen s.mode → Runs (first r) s.tokens m → length (names m.calls) < doubled 128 → IsLive p
live_prefix r p s m h o k few =
    let f = spelled_run s.tokens [] (first r) m (spelled_first r) k in
    let l = live (s.line + 1) s.tokens m f few in
    record {
      more = 10 ∷ all_written l.more;
      calls = l.end.calls;
      file = file_of r (p ++ 10 ∷ all_written l.more) (s.tokens ++ l.more) l.end (live_tokens p s l.more h o l.plain) (runs_join s.tokens l.more (first r) m l.end k l.runs) l.top;
    }
