-- A trace text tells each event of its journal, but for what commits change.
use Rattle.std.proofs.Common.{◌≡◌, ◌<◌, ◌≤◌, ◌+◌, ◌^◌, ℕ, List, [], ◌∷◌, ◌++◌, length, map, drop, flat_map, codes, decimal, refl, sym, ap, ◌∙◌, arith, length-append}
use Rattle.std.specs.List.{AllByRecursion, AllZip}
use Rattle.script.specs.declared.line.Line.{Line}
use Rattle.script.specs.Scripts.{IsScript}
use Rattle.journal.specs.Texts.{IsLine}
use Rattle.action_digest.specs.Buck.{buck}
use Rattle.lists.proofs.Each.{zip_length}
use Rattle.script_trace.specs.Output.{line}
use Rattle.script_trace.specs.Events.{Events, IsJournalOf}
use Rattle.script_trace.specs.Tracing.{IsTraceOf, LeaveOneJournal}
use Rattle.script_trace.proofs.Spelled.{AreSpelled}
use Rattle.script_trace.proofs.Pieces.{IsFree, pieces, lines_back, word_free, joined_free, number_word}
use Rattle.script_trace.proofs.Reading.{AreSmall, bare, numbers, told_in, told_back, line_free}
use Rattle.script_trace.proofs.Numbers.{numbers_small}
use Rattle.script_trace.proofs.Keys.{journal_spelled}
use Rattle.script_trace.proofs.Commits.{refilled, refilled_back, script_log, journal_commits}

lines_tell : (J : Events) (ls : List (List ℕ)) → AreSpelled J → AllByRecursion (λ e. AreSmall (numbers e)) J → AllZip (IsLine buck) J ls → map told_in ls ≡ map bare J
lines_tell [] [] h s z = refl
lines_tell [] (l ∷ ls) h s z = absurd z
lines_tell (e ∷ J) [] h s z = absurd z
lines_tell (e ∷ J) (l ∷ ls) h s z = λ i. told_back e l h.0 s.0 z.0 i ∷ lines_tell J ls h.1 s.1 z.1 i

lines_free : (J : Events) (ls : List (List ℕ)) → AreSpelled J → AllByRecursion (λ e. AreSmall (numbers e)) J → AllZip (IsLine buck) J ls → AllByRecursion (IsFree 10) ls
lines_free [] [] h s z = tt
lines_free [] (l ∷ ls) h s z = absurd z
lines_free (e ∷ J) [] h s z = absurd z
lines_free (e ∷ J) (l ∷ ls) h s z = (line_free e l h.0 s.0 z.0, lines_free J ls h.1 s.1 z.1)

-- a text has a byte or more for each of its lines
lines_long : (ls : List (List ℕ)) → length ls ≤ length (flat_map line ls)
lines_long [] = omega arith
lines_long (l ∷ ls) = omega (arith, length-append (l ++ 10 ∷ []) (flat_map line ls), length-append l (10 ∷ []), lines_long ls)

abbrev head : Events → List ℕ
head J = codes "trace " ++ decimal (length J)

fewer : (J : Events) (text : List ℕ) → length text < 2 ^ 64 → IsTraceOf J text → length J < 2 ^ 64
fewer J text s t =
    let whole : length text ≡ length (line (head J) ++ flat_map line t.lines) = ap length t.is in
    let parts : length (line (head J) ++ flat_map line t.lines) ≡ length (line (head J)) + length (flat_map line t.lines) = length-append (line (head J)) (flat_map line t.lines) in
    omega (arith, whole, parts, lines_long t.lines, zip_length _ J t.lines t.events, s)

-- the events of a text, without what commits change
abbrev told_of_text : List ℕ → Events
told_of_text text = map told_in (drop 1 (pieces 10 text))

text_tells : (J : Events) (text : List ℕ) → length J < 2 ^ 64 → AreSpelled J → AllByRecursion (λ e. AreSmall (numbers e)) J → IsTraceOf J text → told_of_text text ≡ map bare J
text_tells J text few h s t =
    let digits = word_free (decimal (length J)) (number_word (length J) few) in
    let first : IsFree 10 (head J) = joined_free 10 (codes "trace ") (decimal (length J)) (refl, (refl, (refl, (refl, (refl, (refl, tt)))))) digits.1 in
    let rest = lines_free J t.lines h s t.events in
    ap told_of_text t.is ∙ ap (λ ls. map told_in (drop 1 ls)) (lines_back (head J ∷ t.lines) (first, rest)) ∙ lines_tell J t.lines h s t.events

rebuilt : (ls : List Line) (J : Events) (text : List ℕ) → length text < 2 ^ 64 → IsJournalOf ls J → AreSpelled J → IsTraceOf J text → refilled (script_log ls) (told_of_text text) ≡ J
rebuilt ls J text s j h t =
    let few = fewer J text s t in
    let small = numbers_small J j.lawful j.below few in
    (λ i. refilled (sym (journal_commits ls J j) i) (text_tells J text few h small t i)) ∙ refilled_back J

pub one_journal : (script : List ℕ) (ls : List Line) (text : List ℕ) → IsScript script ls → length text < 2 ^ 64 → LeaveOneJournal ls text
one_journal script ls text c s J K t u =
    sym (rebuilt ls J text s t.0 (journal_spelled script ls J c t.0) t.1) ∙ rebuilt ls K text s u.0 (journal_spelled script ls K c u.0) u.1
