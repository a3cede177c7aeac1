-- What the arguments of a call give, and what targets do by them.
use Rattle.std.specs.Prelude.{ℕ, List, [], map, Some}
use Rattle.std.specs.Option.{option_or}
use Rattle.target_file.specs.Calls.{One, Many, Argument}
use Rattle.target_file.specs.Targets.{given, text_in, list_in, source_of}
use Rattle.target_file.specs.declared.table.Attribute.{Attribute}
use Rattle.target_file.specs.declared.table.Attribute.TheVariants.{Src, Srcs, Out, Content, Cmd}
use Rattle.target_file.specs.declared.action.Action.{Action}
use Rattle.target_file.specs.declared.action.Action.TheVariants.{ExportFile, WriteFile, Genrule}

-- the string that is given for an attribute, or the default
abbrev pub text_or : Attribute → List Argument → List ℕ → List ℕ
text_or a arguments default = text_in (option_or (given a arguments) (Some (One default)))

-- the list that is given for an attribute, or an empty one
abbrev pub list_or_none : Attribute → List Argument → List (List ℕ)
list_or_none a arguments = list_in (option_or (given a arguments) (Some (Many [])))

-- a file of the package under the target's name, a written file of that name, and what a command
-- makes
abbrev pub exported : List Argument → List ℕ → Action
exported arguments name = ExportFile (text_or Src arguments name) (text_or Out arguments name)

abbrev pub written : List Argument → List ℕ → Action
written arguments name = WriteFile (text_or Content arguments []) (text_or Out arguments name)

abbrev pub commanded : List Argument → Action
commanded arguments = Genrule (map source_of (list_or_none Srcs arguments)) (text_or Out arguments []) (text_or Cmd arguments [])
