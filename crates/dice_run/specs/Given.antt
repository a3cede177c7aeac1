-- What a command has to be given so that it can be carried out.
use Rattle.std.specs.Prelude.{◌≡◌, ℕ, List, Option, Some}
use Rattle.dice_words.specs.declared.words.Command.{Command}
use Rattle.dice_words.specs.declared.words.Command.TheVariants.{Run, Bulk}
use Rattle.script.specs.declared.line.Line.{Line}
use Rattle.script.specs.Scripts.{IsScript}

-- `run` is given a script, if the source tells its bytes and they are one; `bulk` is given nothing
abbrev pub IsGiven : Command → Option (List ℕ) → Type 0
IsGiven (Run workers trace) left = (text : List ℕ) × (lines : List Line) × (left ≡ Some text) × IsScript text lines
IsGiven (Bulk targets workers) left = Unit {0}
