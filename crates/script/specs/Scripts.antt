-- Scripts as lists of lines, and the first fault.
use Rattle.std.specs.Prelude.{◌≡◌, ◌≢◌, ◌≤◌, ◌+◌, ℕ, List, [], ◌∷◌, ◌++◌, length, take, drop, Some, None}
use Rattle.buck_label.specs.Labels.{Name, IsLabel, printed}
use Rattle.script.specs.Lines.{IsDecimal, words, line_of, behind_line}
use Rattle.script.specs.Past.{Past, nothing, after}
use Rattle.script.specs.Faults.{Form, puts, drops, commits, opens, asks, acts, waits, cancels, closes, form_of, AllHold, FirstToFail, tests}
use Rattle.script.specs.declared.fault.Word.{Word}
use Rattle.script.specs.declared.fault.Word.TheVariants as fault
use Rattle.script.specs.declared.line.Line.{Line}
use Rattle.script.specs.declared.line.Line.TheVariants.{Put, Drop, Commit, Open, Ask, Action, Wait, Cancel, Close}
use Rattle.lists.specs.Lines.{line_feeds}

-- an empty line, and one that begins with #
abbrev pub IsSkipped : List ℕ → Type 0
IsSkipped [] = Unit {0}
IsSkipped (b ∷ bs) = b ≡ 35

-- a line of this form, with the bytes after it: what it does, and what is left
pub data Makes : Form → List ℕ → Line → List ℕ → Type 0 where
  put_line : (path number rest : List ℕ) (n : ℕ) → IsDecimal number n → Makes (puts path number) rest (Put path (take n rest)) (drop (n + 1) rest)
  drop_line : (path rest : List ℕ) → Makes (drops path) rest (Drop path) rest
  commit_line : (rest : List ℕ) → Makes commits rest Commit rest
  open_line : (t rest : List ℕ) → Makes (opens t) rest (Open t) rest
  ask_line : (t name label rest : List ℕ) (n : Name) → IsLabel label n → Makes (asks t name label) rest (Ask (record { transaction = t; name = name; label = printed n })) rest
  action_line : (t name label rest : List ℕ) (n : Name) → IsLabel label n → Makes (acts t name label) rest (Action (record { transaction = t; name = name; label = printed n })) rest
  wait_line : (name rest : List ℕ) → Makes (waits name) rest (Wait name) rest
  cancel_line : (name rest : List ℕ) → Makes (cancels name) rest (Cancel name) rest
  close_line : (t rest : List ℕ) → Makes (closes t) rest (Close t) rest

-- After these lines the bytes are those lines.
pub data IsFrom : Past → List ℕ → List Line → Type 0 where
  ended : (p : Past) → IsFrom p [] []
  skipped : (p : Past) (text : List ℕ) (ls : List Line) → text ≢ [] → IsSkipped (line_of text) → IsFrom p (behind_line text) ls → IsFrom p text ls
  told : (p : Past) (text rest : List ℕ) (f : Form) (l : Line) (ls : List Line) → (IsSkipped (line_of text) → ⊥) → form_of (words (line_of text)) ≡ Some f →
      AllHold (tests p f (behind_line text)) → Makes f (behind_line text) l rest → IsFrom (after p l) rest ls → IsFrom p text (l ∷ ls)

-- The line with which `left` begins is the first that has a fault, and this is its fault.
pub data FaultAt : Past → List ℕ → List ℕ → Word → Type 0 where
  no_form : (p : Past) (text : List ℕ) → (IsSkipped (line_of text) → ⊥) → form_of (words (line_of text)) ≡ None → FaultAt p text text fault.Word
  fails : (p : Past) (text : List ℕ) (f : Form) (w : Word) → (IsSkipped (line_of text) → ⊥) → form_of (words (line_of text)) ≡ Some f →
      FirstToFail (tests p f (behind_line text)) w → FaultAt p text text w
  behind_skipped : (p : Past) (text left : List ℕ) (w : Word) → text ≢ [] → IsSkipped (line_of text) → FaultAt p (behind_line text) left w → FaultAt p text left w
  behind : (p : Past) (text rest left : List ℕ) (f : Form) (l : Line) (w : Word) → (IsSkipped (line_of text) → ⊥) → form_of (words (line_of text)) ≡ Some f →
      AllHold (tests p f (behind_line text)) → Makes f (behind_line text) l rest → FaultAt (after p l) rest left w → FaultAt p text left w

pub record IsScript (text : List ℕ) (ls : List Line) : Type 0 where
  pub fits : length text ≤ 4194304
  pub lines : IsFrom nothing text ls

-- The line's number is 1 plus the LFs before it, those in put bytes counted.
pub record IsFirstFault (text : List ℕ) (line : ℕ) (w : Word) : Type 0 where
  pub fits : length text ≤ 4194304
  pub front : List ℕ
  pub left : List ℕ
  pub text_is : text ≡ front ++ left
  pub fault : FaultAt nothing text left w
  pub line_is : line ≡ 1 + line_feeds front
