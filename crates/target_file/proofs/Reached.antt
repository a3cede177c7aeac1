-- What holds after each byte that was taken: the prefix is scanned and run, and a live one ends on
-- its last line.
use Rattle.std.proofs.Common.{◌≡◌, ◌<◌, ◌+◌, ◌∙◌, sym, ap, refl, subst, inl, inr, ℕ, Bool, true, false, List, [], ◌∷◌, ◌++◌, append_assoc, append-nil, Option, Some, None, if◌then◌else◌, nat_eq, length, arith, ◌||◌}
use Rattle.std.specs.Option.{option_and_then, option_map}
use Rattle.target_file.specs.declared.table.Rule.{Rule}
use Rattle.target_file.specs.declared.place.Place.{Place}
use Rattle.target_file.specs.declared.place.Place.TheVariants as at
use Rattle.target_file.specs.Tokens.{Token, Word, Mode, Between, Comment, InWord, InText, Escape, Scan, next, next_in, between, scan, start, ended, tokens, emit, with_mode, next_line, is_blank, is_mark, is_quote, is_letter, escaped}
use Rattle.target_file.specs.Calls.{Call}
use Rattle.target_file.specs.Files.{names, IsWritten, IsDead, IsFaultLine, IsBad}
use Rattle.target_file.specs.Machine.{State, StepAt, Steps, Runs, first}
use Rattle.target_file.proofs.Runs.{one_run, runs_split, runs_join}
use Rattle.target_file.proofs.Complete.{accepted}
use Rattle.target_file.proofs.Fresh.{doubled}
use Rattle.target_file.proofs.Prefixes.{scan_append, shift, blank, next_front}
use Rattle.target_file.proofs.Spelling.{read_tokens}
use Rattle.target_file.proofs.Faults.{IsLive, dead_byte, dead_token, stuck, live_prefix, file_of}
use Rattle.target_file.proofs.Lines.{told, told_end, dead_text}
use Rattle.target_file.specs.Code.{Refuses, IsOpen, IsEnd}
use borrow.Author.Tests.{eqb-true}
use Rattle.std.proofs.lemmas.Bool.{cases_Bool}
use Rattle.lists.proofs.Lines.{line_feeds_append}
use Rattle.lists.specs.Lines.{line_feeds}

-- a live prefix, and no LF after it
pub record Near (p : List ℕ) : Type 0 where
  pub front : List ℕ
  pub back : List ℕ
  pub prefix_is : p ≡ front ++ back
  pub live : IsLive front
  pub one_line : line_feeds back ≡ 0

pub record Reached (r : Rule) (p : List ℕ) (s : Scan) (m : State) : Type 0 where
  pub scanned : scan start p ≡ Some s
  pub runs : Runs (first r) s.tokens m
  pub line_is : s.line ≡ 1 + line_feeds p
  pub near : Near p

-- an LF leads to a new line, outside words and strings; no other byte does
abbrev pub SameLine : ℕ → Option Scan → Type 0
SameLine line None = Unit {0}
SameLine line (Some t) = t.line ≡ line

pick : (line : ℕ) (c : Bool) (x y : Option Scan) → SameLine line x → SameLine line y → SameLine line (if c then x else y)
pick line true x y h k = h
pick line false x y h k = k

abbrev pub NewLine : ℕ → Option Scan → Type 0
NewLine line None = Unit {0}
NewLine line (Some t) = IsOpen t.mode × (t.line ≡ line + 1)

feed_in : (m : Mode) (s : Scan) → NewLine s.line (next_in m s 10)
feed_in Between s = (tt, refl)
feed_in Comment s = (tt, refl)
feed_in (InWord l w) s = (tt, refl)
feed_in (InText q x) s = tt
feed_in (Escape q x) s = tt

between_line : (s : Scan) (b : ℕ) → nat_eq b 10 ≡ false → SameLine s.line (between s b)
between_line s b f =
    pick s.line (is_blank b) _ _ (let n : next_line b s.line ≡ s.line = rw f refl in n)
    (pick s.line (nat_eq b 35) _ _ refl (pick s.line (is_mark b) _ _ refl (pick s.line (is_quote b) _ _ refl (pick s.line (is_letter b) _ _ refl tt))))

escape_line : (s : Scan) (q : ℕ) (x : List ℕ) (o : Option ℕ) → SameLine s.line (option_and_then (λ c. Some (with_mode s (InText q (x ++ c ∷ [])))) o)
escape_line s q x None = tt
escape_line s q x (Some c) = refl

other_in : (m : Mode) (s : Scan) (b : ℕ) → nat_eq b 10 ≡ false → SameLine s.line (next_in m s b)
other_in Between s b f = between_line s b f
other_in Comment s b f = rw f refl
other_in (InWord l w) s b f = pick s.line (is_letter b) _ _ refl (between_line (emit s (Word l w)) b f)
other_in (InText q x) s b f = pick s.line (nat_eq b 10 || nat_eq b 13) _ _ tt (pick s.line (nat_eq b q) _ _ refl (pick s.line (nat_eq b 92) _ _ refl refl))
other_in (Escape q x) s b f = escape_line s q x (escaped b)

-- one byte more, which is taken
near_more : (p : List ℕ) (b : ℕ) → nat_eq b 10 ≡ false → Near p → Near (p ++ b ∷ [])
near_more p b f n = record {
  front = n.front;
  back = n.back ++ b ∷ [];
  prefix_is = ap (λ (x : List ℕ). x ++ b ∷ []) n.prefix_is ∙ append_assoc n.front n.back (b ∷ []);
  live = n.live;
  one_line = let h = n.one_line in let k = line_feeds_append n.back (b ∷ []) in let g : line_feeds (b ∷ []) ≡ 0 = rw f refl in omega arith;
}

near_live : (p : List ℕ) → IsLive p → Near p
near_live p l = record { front = p; back = []; prefix_is = sym (append-nil p); live = l; one_line = refl }

some_line : (line : ℕ) (o : Option Scan) (t : Scan) → o ≡ Some t → SameLine line o → t.line ≡ line
some_line line None t e h = cc
some_line line (Some u) t e h = let k : u ≡ t = cc in subst (λ (x : Scan). x.line ≡ line) k h

new_line : (line : ℕ) (o : Option Scan) (t : Scan) → o ≡ Some t → NewLine line o → IsOpen t.mode × (t.line ≡ line + 1)
new_line line None t e h = cc
new_line line (Some u) t e h = let k : u ≡ t = cc in subst (λ (x : Scan). IsOpen x.mode × (x.line ≡ line + 1)) k h

line_more : (p : List ℕ) (b n line : ℕ) → line ≡ 1 + line_feeds p → line_feeds (b ∷ []) ≡ n → line + n ≡ 1 + line_feeds (p ++ b ∷ [])
line_more p b n line h k = let f = line_feeds_append p (b ∷ []) in omega arith

scanned_more : (p : List ℕ) (s t : Scan) (b : ℕ) → scan start p ≡ Some s → next s b ≡ Some t → scan start (p ++ b ∷ []) ≡ Some t
scanned_more p s t b h k = scan_append p (b ∷ []) start ∙ ap (λ (o : Option Scan). option_and_then (λ u. scan u (b ∷ [])) o) h ∙ ap (λ (o : Option Scan). option_and_then (λ u. scan u []) o) k

pub took : (r : Rule) (p : List ℕ) (s t : Scan) (m e : State) (b : ℕ) → Reached r p s m → next (blank s) b ≡ Some t → Runs m t.tokens e → length (names e.calls) < doubled 128 → Reached r (p ++ b ∷ []) (shift s.tokens t) e
took r p s t m e b h k g few =
    let n : next s b ≡ Some (shift s.tokens t) = next_front s b ∙ ap (option_map (shift s.tokens)) k in
    let sc = scanned_more p s (shift s.tokens t) b h.scanned n in
    let rs = runs_join s.tokens t.tokens (first r) m e h.runs g in
    elim (cases_Bool (nat_eq b 10)) [
      | inl w ↦
          let z : b ≡ 10 = eqb-true b 10 w in
          let l = new_line s.line (next s b) (shift s.tokens t) n (subst (λ (x : ℕ). NewLine s.line (next s x)) (sym z) (feed_in s.mode s)) in
          record { scanned = sc; runs = rs; line_is = l.1 ∙ line_more p b 1 s.line h.line_is (rw w refl); near = near_live (p ++ b ∷ []) (live_prefix r (p ++ b ∷ []) (shift s.tokens t) e sc l.0 rs few) }
      | inr f ↦
          let l = some_line s.line (next s b) (shift s.tokens t) n (other_in s.mode s b f) in
          record { scanned = sc; runs = rs; line_is = l ∙ (let q = h.line_is in let v = line_more p b 0 s.line h.line_is (rw f refl) in omega arith); near = near_more p b f h.near }
    ]

pub refused_dead : (r : Rule) (p : List ℕ) (s : Scan) (m : State) (b : ℕ) → Reached r p s m → Refuses (blank s) b m → IsDead (p ++ b ∷ [])
refused_dead r p s m b h (inl k) =
    let n : next s b ≡ None = next_front s b ∙ ap (option_map (shift s.tokens)) k in
    dead_byte (p ++ b ∷ []) (scan_append p (b ∷ []) start ∙ ap (λ (o : Option Scan). option_and_then (λ u. scan u (b ∷ [])) o) h.scanned ∙ ap (λ (o : Option Scan). option_and_then (λ u. scan u []) o) n)
refused_dead r p s m b h (inr k) =
    let n : next s b ≡ Some (shift s.tokens k.0) = next_front s b ∙ ap (option_map (shift s.tokens)) k.1 in
    dead_token r (p ++ b ∷ []) (shift s.tokens k.0) (scanned_more p s (shift s.tokens k.0) b h.scanned n) (stuck r s.tokens k.0.tokens m h.runs k.2)

same_line : (p : List ℕ) (line : ℕ) (n : Near p) → line ≡ 1 + line_feeds p → 1 + line_feeds n.front ≡ line
same_line p line n h =
    let f = line_feeds_append n.front n.back in let g : line_feeds p ≡ line_feeds (n.front ++ n.back) = ap line_feeds n.prefix_is in let k = n.one_line in omega arith

-- A dead byte: the text is bad on its line.
pub bad_byte : (r : Rule) (text p rest : List ℕ) (s : Scan) (m : State) (b : ℕ) → text ≡ p ++ b ∷ rest → Reached r p s m → Refuses (blank s) b m → IsBad text s.line
bad_byte r text p rest s m b e h k =
    let d = refused_dead r p s m b h k in
    let n = h.near in
    let e2 : text ≡ (n.front ++ n.back) ++ b ∷ rest = e ∙ ap (λ (x : List ℕ). x ++ b ∷ rest) n.prefix_is in
    let d2 : IsDead ((n.front ++ n.back) ++ b ∷ []) = subst (λ (x : List ℕ). IsDead (x ++ b ∷ [])) n.prefix_is d in
    record { refused = dead_text text p rest b e d; line_is = subst (IsFaultLine text) (same_line p s.line n h.line_is) (told text n.front n.back rest b e2 n.live n.one_line d2) }

open_ended : (m : Mode) (ts : List Token) → IsOpen m → ended m ts ≡ Some ts
open_ended Between ts h = refl
open_ended Comment ts h = refl
open_ended (InWord l w) ts h = absurd h
open_ended (InText q x) ts h = absurd h
open_ended (Escape q x) ts h = absurd h

tokens_end : (r : Rule) (text : List ℕ) (s : Scan) (m : State) → Reached r text s m → tokens text ≡ ended s.mode s.tokens
tokens_end r text s m h = ap (λ (o : Option Scan). option_and_then (λ s. ended s.mode s.tokens) o) h.scanned

pub good_end : (r : Rule) (text : List ℕ) (s : Scan) (m : State) → Reached r text s m → IsEnd s m → IsWritten text m.calls
good_end r text s m h k = file_of r text s.tokens m (tokens_end r text s m h ∙ open_ended s.mode s.tokens k.0) h.runs k.1

named_not_top : (a : State) (e : State) (p : Place) → (p ≡ at.Top → ⊥) → e.place ≡ p → e.place ≡ at.Top → ⊥
named_not_top a e p n h k = n (sym h ∙ k)

word_not_top : (p : Place) (m e : State) (l : ℕ) (w : List ℕ) → StepAt p m (Word l w) e → e.place ≡ at.Top → ⊥
word_not_top at.Top m e l w k h = let x : at.Named ≡ at.Top = sym (ap (λ (s : State). s.place) k.2) ∙ h in cc
word_not_top at.Named m e l w k h = k
word_not_top at.Inside m e l w k h = let x : at.Equal k.0 ≡ at.Top = sym (ap (λ (s : State). s.place) k.1.state_is) ∙ h in cc
word_not_top (at.Equal a) m e l w k h = k
word_not_top (at.Value a) m e l w k h = k
word_not_top (at.List a) m e l w k h = k
word_not_top (at.Item a) m e l w k h = k
word_not_top at.Done m e l w k h = k

-- a file ends at the machine's top, outside words and strings
file_ends : (mode : Mode) (r : Rule) (ts made : List Token) (m e : State) → Runs (first r) ts m → ended mode ts ≡ Some made → Runs (first r) made e → e.place ≡ at.Top → IsOpen mode × (m ≡ e)
file_ends Between r ts made m e h k g t = let x : ts ≡ made = cc in (tt, one_run ts (first r) m e h (subst (λ (z : List Token). Runs (first r) z e) (sym x) g))
file_ends Comment r ts made m e h k g t = let x : ts ≡ made = cc in (tt, one_run ts (first r) m e h (subst (λ (z : List Token). Runs (first r) z e) (sym x) g))
file_ends (InWord l w) r ts made m e h k g t =
    let x : ts ++ Word l w ∷ [] ≡ made = cc in
    let y = runs_split ts (Word l w ∷ []) (first r) e (subst (λ (z : List Token). Runs (first r) z e) (sym x) g) in
    let z : e ≡ y.2.0 = y.2.2 in
    absurd (word_not_top y.0.place y.0 e l w (subst (Steps y.0 (Word l w)) (sym z) y.2.1) t)
file_ends (InText q x) r ts made m e h k g t = cc
file_ends (Escape q x) r ts made m e h k g t = cc

pub end_only : (r : Rule) (text : List ℕ) (s : Scan) (m : State) (calls : List Call) → Reached r text s m → IsWritten text calls → IsEnd s m × (calls ≡ m.calls)
end_only r text s m calls h f =
    let a = accepted r f.made_of calls f.calls_are f.each f.once in
    let x = file_ends s.mode r s.tokens f.made_of m a.end h.runs (sym (tokens_end r text s m h) ∙ read_tokens text f.made_of f.tokens_are) a.runs a.top in
    ((x.0, ap (λ (z : State). z.place) x.1 ∙ a.top), sym a.calls_are ∙ ap (λ (z : State). z.calls) (sym x.1))

-- A text that ends elsewhere is bad on the line of its end.
pub bad_end : (r : Rule) (text : List ℕ) (s : Scan) (m : State) → Reached r text s m → (IsEnd s m → ⊥) → IsBad text s.line
bad_end r text s m h k =
    let n = h.near in
    record { refused = λ calls f. k (end_only r text s m calls h f).0; line_is = subst (IsFaultLine text) (same_line text s.line n h.line_is) (told_end text n.front n.back n.prefix_is n.live n.one_line) }

pub reached_first : (r : Rule) → Reached r [] start (first r)
reached_first r = record {
  scanned = refl;
  runs = refl;
  line_is = refl;
  near = near_live [] (live_prefix r [] start (first r) refl tt refl (omega arith));
}
