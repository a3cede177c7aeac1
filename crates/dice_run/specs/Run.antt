-- What a run promises.
use Rattle.std.specs.Prelude.{◌≡◌, ◌⊎◌, ◌<◌, ℕ, Bool, false, List, [], ◌++◌, codes, decimal, length, Option, Some}
use Rattle.script.specs.declared.line.Line.{Line}
use Rattle.script.specs.declared.fault.Word.{Word}
use Rattle.script.specs.Words.{text_of}
use Rattle.script.specs.Scripts.{IsScript, IsFirstFault}
use Rattle.dice_io.specs.Streams.{ReadTo}
use Rattle.dice_words.specs.declared.words.Command.{Command}
use Rattle.dice_words.specs.declared.words.Command.TheVariants.{Run, Bulk}
use Rattle.bulk_script.specs.Bulk.{bulk, requests}
use Rattle.hex.specs.Hex.{encode_lower}
use Rattle.sha2.specs.Sha256.{sha256}
use Rattle.script_trace.specs.Output.{line}
use Rattle.script_trace.specs.Tracing.{IsPrintout}
use Rattle.dice_run.specs.Keeping.{IsKeptWith}
use Rattle.dice_run.specs.declared.kept.Kept.{Kept}
use Rattle.dice_run.specs.declared.status.Status.{Status}
use Rattle.dice_run.specs.declared.status.Status.TheVariants.{Done, WordsRefused, ReadFailed, WriteFailed, ScriptRefused, NoMemory}

abbrev pub code_of : Status → ℕ
code_of Done = 0
code_of WordsRefused = 2
code_of ReadFailed = 3
code_of WriteFailed = 4
code_of ScriptRefused = 5
code_of NoMemory = 6

-- the input is a script; what is left is an engine with the driver's seat, whose seen journal is one of the script; and what is written
-- is the script's output, with the trace of that journal after it if it is asked for
pub record Answers (trace : Bool) (input out : List ℕ) (k : Option Kept) : Type 0 where
  pub lines : List Line
  pub script : IsScript input lines
  pub left : IsKeptWith lines k
  pub output : IsPrintout trace lines left.kept.seat.seen out

-- the input is too long, or not in the grammar of scripts, and the output names the first fault
pub data Refuses (input : List ℕ) : List ℕ → Type 0 where
  too_long : 4194304 < length input → Refuses input (line (codes "script too long"))
  faulty : (n : ℕ) (w : Word) → IsFirstFault input n w → Refuses input (line (codes "line " ++ decimal n ++ codes ": " ++ text_of w))

-- what is written for an input whose reading did not fail
abbrev pub IsWritten : Bool → List ℕ → List ℕ → Type 0
IsWritten trace input out = ((k : Option Kept) × Answers trace input out k) ⊎ Refuses input out

-- the one line that the bulk script of n targets is summed up by, if its output is this text
abbrev pub summary : ℕ → List ℕ → List ℕ
summary n text = line (codes "bulk " ++ decimal n ++ codes " requests " ++ decimal (requests n) ++ codes " output " ++ decimal (length text)
    ++ codes " digest " ++ encode_lower (sha256 text))

-- what is written is the summary of an output of the bulk script of n targets, and what is left is an engine that ran it
pub record Sums (n : ℕ) (out : List ℕ) (k : Option Kept) : Type 0 where
  pub text : List ℕ
  pub answers : Answers false (bulk n) text k
  pub is : out ≡ summary n text

-- the source gave these bytes, which go to its end: so they are all that it told to be left, if it tells that
abbrev pub ReadWhole : Option (List ℕ) → Option (List ℕ) → List ℕ → Type 0
ReadWhole left after read = (all : List ℕ) → left ≡ Some all → (all ≡ read) × (after ≡ Some [])

-- what a command reads, writes and leaves
abbrev pub Does : Command → Option (List ℕ) → Option (List ℕ) → (List ℕ → Type 0) → Option Kept → Type 0
Does (Run workers trace) left after P k = (read : List ℕ) × (out : List ℕ) × ReadWhole left after read × Answers trace read out k × P out
Does (Bulk targets workers) left after P k = (out : List ℕ) × Sums targets out k × P out

-- what a command reads, and begins to write
abbrev pub Begins : Command → Option (List ℕ) → Option (List ℕ) → (List ℕ → Type 0) → Type 0
Begins (Run workers trace) left after P = (read : List ℕ) × (out : List ℕ) × ReadTo left after read 4194305 × IsWritten trace read out × P out
Begins (Bulk targets workers) left after P = (out : List ℕ) × (k : Option Kept) × Sums targets out k × P out
