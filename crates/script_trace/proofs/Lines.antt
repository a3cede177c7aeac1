-- What the lines of a script name is written in words, and memory can hold the files that they put.
use Rattle.std.proofs.Common.{◌<◌, ◌≤◌, ◌^◌, ◌+◌, ℕ, List, length, arith, length-take, length-drop}
use Rattle.std.specs.List.{AllByRecursion}
use Rattle.script.specs.Lines.{before, behind_line}
use Rattle.script.specs.Past.{Past, nothing, after}
use Rattle.script.specs.Faults.{Form, tests, AllHold}
use Rattle.script.specs.Scripts.{IsScript, IsFrom, ended, skipped, told, Makes, put_line, drop_line, commit_line, open_line, ask_line, action_line, wait_line, cancel_line, close_line}
use Rattle.script.specs.declared.line.Line.{Line}
use Rattle.script.specs.declared.line.Line.TheVariants.{Put, Drop, Commit, Open, Ask, Action, Wait, Cancel, Close}
use Rattle.script_trace.proofs.Spelled.{IsWord}
use Rattle.script_trace.proofs.Words.{path_word, label_words}

abbrev pub LineFits : Line → Type 0
LineFits (Put path bytes) = IsWord path × (length bytes < 2 ^ 64)
LineFits (Drop path) = IsWord path
LineFits Commit = Unit {0}
LineFits (Open t) = Unit {0}
LineFits (Ask r) = IsWord r.label
LineFits (Action r) = IsWord r.label
LineFits (Wait q) = Unit {0}
LineFits (Cancel q) = Unit {0}
LineFits (Close t) = Unit {0}

line_fits : (p : Past) (f : Form) (behind : List ℕ) (l : Line) (rest : List ℕ) → length behind < 2 ^ 64 → AllHold (tests p f behind) → Makes f behind l rest → LineFits l
line_fits p f behind l rest s h (put_line path number r n d) = (path_word path h.0, omega (arith, length-take n behind, s))
line_fits p f behind l rest s h (drop_line path r) = path_word path h.0
line_fits p f behind l rest s h (commit_line r) = tt
line_fits p f behind l rest s h (open_line t r) = tt
line_fits p f behind l rest s h (ask_line t name label r n i) = (label_words label n i).1
line_fits p f behind l rest s h (action_line t name label r n i) = (label_words label n i).1
line_fits p f behind l rest s h (wait_line name r) = tt
line_fits p f behind l rest s h (cancel_line name r) = tt
line_fits p f behind l rest s h (close_line t r) = tt

rest_shorter : (f : Form) (behind : List ℕ) (l : Line) (rest : List ℕ) → Makes f behind l rest → length rest ≤ length behind
rest_shorter f behind l rest (put_line path number r n d) = omega (arith, length-drop (n + 1) behind)
rest_shorter f behind l rest (drop_line path r) = omega arith
rest_shorter f behind l rest (commit_line r) = omega arith
rest_shorter f behind l rest (open_line t r) = omega arith
rest_shorter f behind l rest (ask_line t name label r n i) = omega arith
rest_shorter f behind l rest (action_line t name label r n i) = omega arith
rest_shorter f behind l rest (wait_line name r) = omega arith
rest_shorter f behind l rest (cancel_line name r) = omega arith
rest_shorter f behind l rest (close_line t r) = omega arith

behind_shorter : (text : List ℕ) → length (behind_line text) ≤ length text
behind_shorter text = omega (arith, length-drop (before 10 text + 1) text)

no_longer : (m n k : ℕ) → m ≤ n → n < k → m < k
no_longer m n k l s = omega arith

lines_fit : (p : Past) (text : List ℕ) (ls : List Line) → length text < 2 ^ 64 → IsFrom p text ls → AllByRecursion LineFits ls
lines_fit p text ls s (ended q) = tt
lines_fit p text ls s (skipped q t ms some skip from) = lines_fit p (behind_line text) ls (no_longer _ _ _ (behind_shorter text) s) from
lines_fit p text ls s (told q t rest f l ms not_skipped form holds makes from) =
    let fewer = no_longer _ _ _ (behind_shorter text) s in
    (line_fits p f (behind_line text) l rest fewer holds makes, lines_fit (after p l) rest ms (no_longer _ _ _ (rest_shorter f (behind_line text) l rest makes) fewer) from)

pub script_fits : (text : List ℕ) (ls : List Line) → IsScript text ls → AllByRecursion LineFits ls
script_fits text ls h = lines_fit nothing text ls (let l = h.fits in omega arith) h.lines
