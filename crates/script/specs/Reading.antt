-- What the reader and its parts answer.
use Rattle.std.specs.Prelude.{◌≡◌, ◌<◌, ℕ, List, length, Result, Ok, Err}
use Rattle.script.specs.declared.fault.ScriptRefusal.{ScriptRefusal}
use Rattle.script.specs.declared.fault.ScriptRefusal.TheVariants as refusal
use Rattle.script.specs.declared.line.Line.{Line}
use Rattle.script.specs.Scripts.{IsScript, IsFirstFault}

-- The script's lines and no others; the first fault; too long, tested first.
abbrev pub IsRead : List ℕ → Result (List Line) ScriptRefusal → Type 0
IsRead text (Ok ls) = IsScript text ls × ((others : List Line) → IsScript text others → others ≡ ls)
IsRead text (Err (refusal.Fault line word)) = IsFirstFault text line word
IsRead text (Err refusal.TooLong) = 4194304 < length text
IsRead text (Err refusal.NoMemory) = Unit {0}
