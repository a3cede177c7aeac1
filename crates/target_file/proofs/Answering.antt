-- The contents of a text are those of the grammar.
use Rattle.target_file.specs.Spelling.{no_token}
use Rattle.target_file.proofs.Spelling.{read_tokens}
use Rattle.std.proofs.Common.{◌≡◌, ◌<◌, ◌≤◌, ◌+◌, ◌^◌, ◌∙◌, ◌↔◌, sym, ap, refl, subst, inl, inr, ℕ, zero, suc, Bool, true, false, if◌then◌else◌, List, [], ◌∷◌, ◌++◌, append_assoc, append-nil, length, length-append, map, Option, Some, None, arith}
use Rattle.std.proofs.lemmas.Bool.{cases_eq}
use Rattle.target_file.specs.declared.table.Rule.TheVariants.{WriteFile}
use Rattle.target_file.specs.declared.place.Place.{Place}
use Rattle.target_file.specs.declared.place.Place.TheVariants as at
use Rattle.target_file.specs.Tokens.{Token, Mode, Between, Comment, InWord, InText, Escape, Scan, start}
use Rattle.target_file.specs.Calls.{Call}
use Rattle.target_file.specs.Files.{IsWritten, IsDead, IsShortestDead, IsFaultLine, IsBad}
use Rattle.target_file.specs.Targets.{Located, located, IsFile}
use Rattle.target_file.specs.Machine.{State, Runs, first}
use Rattle.target_file.specs.Code.{IsOpen, IsEnd}
use Rattle.target_file.specs.Contents.{Contents, Holds, Fails, ends_at, take_byte, on_step, contents_from, contents}
use Rattle.target_file.proofs.Runs.{one_run}
use Rattle.target_file.proofs.Complete.{accepted}
use Rattle.target_file.proofs.Prefixes.{blank}
use Rattle.target_file.proofs.Held.{Held, held_first, held_more, held_bad, held_end_bad, held_file}
use Rattle.target_file.proofs.Saying.{Says}
use Rattle.target_file.proofs.Deciding.{Byte, byte_only}

abbrev pub Answers : List ℕ → Contents → Type 0
Answers text (Holds file) = IsFile text file
Answers text (Fails line) = IsBad text line

end_says : (m : Mode) (p : Place) → Says (ends_at m p) (IsOpen m × (p ≡ at.Top))
end_says Between at.Top = (tt, refl)
end_says Comment at.Top = (tt, refl)
end_says (InWord l w) p = λ h. h.0
end_says (InText q x) p = λ h. h.0
end_says (Escape q x) p = λ h. h.0
end_says Between at.Named = λ h. let e = h.1 in cc
end_says Between at.Inside = λ h. let e = h.1 in cc
end_says Between (at.Equal a) = λ h. let e = h.1 in cc
end_says Between (at.Value a) = λ h. let e = h.1 in cc
end_says Between (at.List a) = λ h. let e = h.1 in cc
end_says Between (at.Item a) = λ h. let e = h.1 in cc
end_says Between at.Done = λ h. let e = h.1 in cc
end_says Comment at.Named = λ h. let e = h.1 in cc
end_says Comment at.Inside = λ h. let e = h.1 in cc
end_says Comment (at.Equal a) = λ h. let e = h.1 in cc
end_says Comment (at.Value a) = λ h. let e = h.1 in cc
end_says Comment (at.List a) = λ h. let e = h.1 in cc
end_says Comment (at.Item a) = λ h. let e = h.1 in cc
end_says Comment at.Done = λ h. let e = h.1 in cc

at_end : (b : Bool) (text : List ℕ) (s : Scan) (m : State) → Held text s m → Says b (IsEnd s m) → Answers text (if b then Holds (map located m.calls) else Fails s.line)
at_end true text s m h k = record { calls = m.calls; written = (held_file text s m h k).0; means = refl }
at_end false text s m h k = held_end_bad text s m h k

moved : (p bs : List ℕ) (b : ℕ) (c : Contents) → Answers ((p ++ b ∷ []) ++ bs) c → Answers (p ++ b ∷ bs) c
moved p bs b c h = subst (λ (t : List ℕ). Answers t c) (append_assoc p (b ∷ []) bs) h

step_answers : (p bs : List ℕ) (b : ℕ) (s : Scan) (m : State) (o : Option (Scan × State)) → Held p s m → length (p ++ b ∷ bs) < 2 ^ 64 → Byte s b m o →
    ((t : Scan) (e : State) → Held (p ++ b ∷ []) t e → Answers ((p ++ b ∷ []) ++ bs) (contents_from t e bs)) → Answers (p ++ b ∷ bs) (on_step (Fails s.line) (λ q. contents_from q.0 q.1 bs) o)
step_answers p bs b s m None h l k r = held_bad (p ++ b ∷ bs) p bs b s m refl h k
step_answers p bs b s m (Some q) h l k r =
    let n = length-append p (b ∷ bs) in
    let g : Held (p ++ b ∷ []) (blank q.0) q.1 = held_more p b s q.0 m q.1 (omega arith) h k.0 in
    let g2 : Held (p ++ b ∷ []) q.0 q.1 = subst (λ (t : Scan). Held (p ++ b ∷ []) t q.1) k.1 g in
    moved p bs b (contents_from q.0 q.1 bs) (r q.0 q.1 g2)

answers_from : (rest p : List ℕ) (s : Scan) (m : State) → Held p s m → length (p ++ rest) < 2 ^ 64 → Answers (p ++ rest) (contents_from s m rest)
answers_from [] p s m h l =
    subst (λ (t : List ℕ). Answers t (contents_from s m [])) (sym (append-nil p)) (at_end (ends_at s.mode m.place) p s m h (end_says s.mode m.place))
answers_from (b ∷ bs) p s m h l =
    step_answers p bs b s m (take_byte s b m) h l (byte_only s b m)
    (λ t e g. answers_from bs (p ++ b ∷ []) t e g (subst (λ (x : List ℕ). length x < 2 ^ 64) (sym (append_assoc p (b ∷ []) bs)) l))

pub contents_answer : (text : List ℕ) → length text < 2 ^ 64 → Answers text (contents text)
unfolding contents
contents_answer text l = answers_from text [] start (first WriteFile) held_first l

-- a text has one list of calls
one_list : (text : List ℕ) (xs ys : List Call) → IsWritten text xs → IsWritten text ys → xs ≡ ys
one_list text xs ys f g =
    let a = accepted WriteFile f.made_of xs f.calls_are f.each f.once in
    let b = accepted WriteFile g.made_of ys g.calls_are g.each g.once in
    let e : Some f.made_of ≡ Some g.made_of = sym (read_tokens text f.made_of f.tokens_are) ∙ read_tokens text g.made_of g.tokens_are in
    let t : f.made_of ≡ g.made_of = cc in
    let r : Runs (first WriteFile) f.made_of b.end = subst (λ (x : List Token). Runs (first WriteFile) x b.end) (sym t) b.runs in
    sym a.calls_are ∙ ap (λ (x : State). x.calls) (one_run f.made_of (first WriteFile) a.end b.end a.runs r) ∙ b.calls_are

pub one_file : (text : List ℕ) (x y : List Located) → IsFile text x → IsFile text y → x ≡ y
one_file text x y f g = f.means ∙ ap (map located) (one_list text f.calls g.calls f.written g.written) ∙ sym g.means

pub not_both : (text : List ℕ) (file : List Located) (line : ℕ) → IsFile text file → IsBad text line → ⊥
not_both text file line f b = b.refused f.calls f.written

-- a list, by its last item
data Ended (xs : List ℕ) : Type 0 where
  none : xs ≡ [] → Ended xs
  last : (ys : List ℕ) (y : ℕ) → xs ≡ ys ++ y ∷ [] → Ended xs

consed : (x : ℕ) (xs : List ℕ) → Ended xs → Ended (x ∷ xs)
consed x xs (none e) = last [] x (ap (λ (r : List ℕ). x ∷ r) e)
consed x xs (last ys y e) = last (x ∷ ys) y (ap (λ (r : List ℕ). x ∷ r) e)

ended : (xs : List ℕ) → Ended xs
ended [] = none refl
ended (x ∷ xs) = consed x xs (ended xs)

empty_lives : IsDead [] → ⊥
empty_lives d = d [] [] (record { made_of = []; tokens_are = no_token; calls_are = refl; each = tt; once = tt })

-- if no prefix is the shortest dead one, none is dead
end_lives : (n : ℕ) (text front back : List ℕ) → ((before : List ℕ) (b : ℕ) → IsShortestDead text before b → ⊥) → text ≡ front ++ back → length front ≤ n → IsDead front → Ended front → ⊥
end_lives n text front back k e l d (none h) = empty_lives (subst IsDead h d)
end_lives zero text front back k e l d (last ys y h) = let f : length front ≡ length ys + 1 = ap length h ∙ length-append ys (y ∷ []) in absurd (omega arith)
end_lives (suc n) text front back k e l d (last ys y h) =
    let f : length front ≡ length ys + 1 = ap length h ∙ length-append ys (y ∷ []) in
    let t : text ≡ ys ++ y ∷ back = e ∙ ap (λ (r : List ℕ). r ++ back) h ∙ append_assoc ys (y ∷ []) back in
    k ys y (record {
      rest = back;
      text_is = t;
      dead = subst IsDead h d;
      shorter = λ x z i g.
          let m : length ys ≡ length x + length z = ap length i ∙ length-append x z in
          end_lives n text x (z ++ y ∷ back) k (t ∙ ap (λ (r : List ℕ). r ++ y ∷ back) i ∙ append_assoc x z (y ∷ back)) (omega arith) g (ended x);
    })

-- a text has one line of its fault
pub one_line : (text : List ℕ) (m n : ℕ) → IsFaultLine text m → IsFaultLine text n → m ≡ n
one_line text m n f g = elim (cases_eq m n) [
  | inl e ↦ e
  | inr k ↦
      let none : (front back : List ℕ) → text ≡ front ++ back → IsDead front → ⊥ =
      λ front back e d. end_lives (length front) text front back (λ before b s. k (f.dead before b s ∙ sym (g.dead before b s))) e (omega arith) d (ended front) in
      f.end none ∙ sym (g.end none)
]

holds_back : (text : List ℕ) (file : List Located) (c : Contents) → Answers text c → IsFile text file → c ≡ Holds file
holds_back text file (Holds x) h f = ap Holds (one_file text x file h f)
holds_back text file (Fails l) h f = absurd (not_both text file l f h)

fails_back : (text : List ℕ) (line : ℕ) (c : Contents) → Answers text c → IsBad text line → c ≡ Fails line
fails_back text line (Holds x) h b = absurd (not_both text x line h b)
fails_back text line (Fails l) h b = ap Fails (one_line text l line h.line_is b.line_is)

pub file_by : (text : List ℕ) (file : List Located) → length text < 2 ^ 64 → (contents text ≡ Holds file) ↔ IsFile text file
file_by text file l = (λ e. subst (Answers text) e (contents_answer text l), holds_back text file (contents text) (contents_answer text l))

pub bad_by : (text : List ℕ) (line : ℕ) → length text < 2 ^ 64 → (contents text ≡ Fails line) ↔ IsBad text line
bad_by text line l = (λ e. subst (Answers text) e (contents_answer text l), fails_back text line (contents text) (contents_answer text l))

-- what a reader answers, by both clauses
pub file_answer : (text : List ℕ) (file : List Located) → length text < 2 ^ 64 → IsFile text file → record { grammar : IsFile text file; value : contents text ≡ Holds file }
file_answer text file l f = record { grammar = f; value = (file_by text file l).1 f }

pub bad_answer : (text : List ℕ) (line : ℕ) → length text < 2 ^ 64 → IsBad text line → record { grammar : IsBad text line; value : contents text ≡ Fails line }
bad_answer text line l b = record { grammar = b; value = (bad_by text line l).1 b }
