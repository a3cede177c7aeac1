-- How the refusal of a script prints.
use Rattle.std.specs.Prelude.{ℕ, List, ◌++◌, codes, decimal}
use Rattle.script.specs.declared.fault.ScriptRefusal.{ScriptRefusal}
use Rattle.script.specs.declared.fault.ScriptRefusal.TheVariants.{Fault, TooLong, NoMemory}
use Rattle.script.specs.Words.{text_of}

abbrev pub refusal_text : ScriptRefusal → List ℕ
refusal_text (Fault line word) = codes "line " ++ decimal line ++ codes ": " ++ text_of word
refusal_text TooLong = codes "script too long"
refusal_text NoMemory = codes "no memory"
