-- The words of faults.
use Rattle.std.specs.Prelude.{ℕ, List, codes}
use Rattle.script.specs.declared.fault.Word.{Word}
use Rattle.script.specs.declared.fault.Word.TheVariants as fault

abbrev pub text_of : Word → List ℕ
text_of fault.Word = codes "word"
text_of fault.Path = codes "path"
text_of fault.Twice = codes "twice"
text_of fault.Number = codes "number"
text_of fault.Count = codes "count"
text_of fault.Name = codes "name"
text_of fault.Taken = codes "taken"
text_of fault.Open = codes "open"
text_of fault.Label = codes "label"
text_of fault.Unknown = codes "unknown"
text_of fault.Answered = codes "answered"
text_of fault.Cancelled = codes "cancelled"
