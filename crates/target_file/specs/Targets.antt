-- What the calls of a file mean: targets, with defaults filled in.
use Rattle.std.specs.Prelude.{◌≡◌, ◌&&◌, ℕ, Bool, if◌then◌else◌, nat_eq, List, [], ◌∷◌, map, Option, Some, None}
use Rattle.std.specs.List.{AllByRecursion}
use Rattle.std.specs.Option.{option_or}
use Rattle.std.specs.Str.{bytes_eq}
use Rattle.std.specs.Cmp.Lexicographic.{pointwise}
use Rattle.buck_label.specs.Paths.{IsPath}
use Rattle.buck_label.specs.Labels.{IsSomeLabel}
use Rattle.target_file.specs.Table.{same_attribute}
use Rattle.target_file.specs.Strings.{is_label_like, IsCommand}
use Rattle.target_file.specs.Calls.{Value, One, Many, Argument, Call}
use Rattle.target_file.specs.Files.{IsWritten}
use Rattle.target_file.specs.Same.{same_texts, same_action}
use Rattle.target_file.specs.declared.table.Rule.{Rule}
use Rattle.target_file.specs.declared.table.Rule.TheVariants as rule
use Rattle.target_file.specs.declared.table.Attribute.{Attribute}
use Rattle.target_file.specs.declared.table.Attribute.TheVariants.{Name, Visibility, Labels, Src, Srcs, Out, Content, Cmd}
use Rattle.target_file.specs.declared.source.Source.{Source}
use Rattle.target_file.specs.declared.source.Source.TheVariants as source
use Rattle.target_file.specs.declared.action.Action.{Action}
use Rattle.target_file.specs.declared.action.Action.TheVariants as action

-- what a call means, apart from its line
pub record Target : Type 0 where
  pub name : List ℕ
  pub visibility : List (List ℕ)
  pub labels : List (List ℕ)
  pub action : Action

-- a target, with the line of its rule's name
pub record Located : Type 0 where
  pub line : ℕ
  pub target : Target

-- the value given for an attribute, if any
abbrev pub given : Attribute → List Argument → Option Value
given a [] = None
given a (b ∷ more) = if same_attribute a b.attribute then Some b.value else given a more

-- the string, or the list, of a value that is one
abbrev pub text_in : Option Value → List ℕ
text_in (Some (One s)) = s
text_in o = []

abbrev pub list_in : Option Value → List (List ℕ)
list_in (Some (Many ss)) = ss
list_in o = []

-- the default of an attribute that the rule has, in a call of this name; None if there is no
-- default
abbrev pub default_of : Rule → Attribute → List ℕ → Option Value
default_of r Visibility name = Some (Many [])
default_of r Labels name = Some (Many [])
default_of rule.ExportFile Src name = Some (One name)
default_of rule.ExportFile Out name = Some (One name)
default_of rule.Filegroup Srcs name = Some (Many [])
default_of rule.WriteFile Out name = Some (One name)
default_of rule.Genrule Srcs name = Some (Many [])
default_of rule.StampFile Out name = Some (One name)
default_of r a name = None

-- a source is a label if it begins with : or //, otherwise a path
abbrev pub source_of : List ℕ → Source
source_of text = if is_label_like text then source.Label text else source.Path text

-- what a target of the rule does, by the value of each attribute
abbrev pub action_by : Rule → (Attribute → Option Value) → Action
action_by rule.ExportFile v = action.ExportFile (text_in (v Src)) (text_in (v Out))
action_by rule.Filegroup v = action.Filegroup (map source_of (list_in (v Srcs)))
action_by rule.WriteFile v = action.WriteFile (text_in (v Content)) (text_in (v Out))
action_by rule.Genrule v = action.Genrule (map source_of (list_in (v Srcs))) (text_in (v Out)) (text_in (v Cmd))
action_by rule.StampFile v = action.StampFile (text_in (v Out))

abbrev pub target_by : Rule → (Attribute → Option Value) → Target
target_by r v = record { name = text_in (v Name); visibility = list_in (v Visibility); labels = list_in (v Labels); action = action_by r v }

-- the value of an attribute: what is given for it, otherwise its default
abbrev pub value_of : Rule → List Argument → Attribute → Option Value
value_of r arguments a = option_or (given a arguments) (default_of r a (text_in (given Name arguments)))

abbrev pub target_of : Rule → List Argument → Target
target_of r arguments = target_by r (value_of r arguments)

abbrev pub located : Call → Located
located c = record { line = c.line; target = target_of c.rule c.arguments }

-- The bytes are a target file, and these are its targets, in order.
pub record IsFile (text : List ℕ) (file : List Located) : Type 0 where
  pub calls : List Call
  pub written : IsWritten text calls
  pub means : file ≡ map located calls

-- a path or a label, as written
abbrev pub IsSourceText : Source → Type 0
IsSourceText (source.Path p) = IsPath p
IsSourceText (source.Label l) = IsSomeLabel l

-- each path, label and command is one
abbrev pub IsSound : Action → Type 0
IsSound (action.ExportFile src out) = IsPath src × IsPath out
IsSound (action.Filegroup srcs) = AllByRecursion IsSourceText srcs
IsSound (action.WriteFile content out) = IsPath out
IsSound (action.Genrule srcs out cmd) = AllByRecursion IsSourceText srcs × IsPath out × IsCommand cmd
IsSound (action.StampFile out) = IsPath out

abbrev pub names_of : List Located → List (List ℕ)
names_of file = map (λ l. l.target.name) file

-- the first target of this name
abbrev pub target_named : List ℕ → List Located → Option Target
target_named q [] = None
target_named q (l ∷ ls) = if bytes_eq q l.target.name then Some l.target else target_named q ls

-- whether two targets, and two files, are the same
abbrev pub same_target : Target → Target → Bool
same_target x y = (bytes_eq x.name y.name && same_texts x.visibility y.visibility) && (same_texts x.labels y.labels && same_action x.action y.action)

abbrev pub same_located : Located → Located → Bool
same_located x y = nat_eq x.line y.line && same_target x.target y.target

abbrev pub same_file : List Located → List Located → Bool
same_file = pointwise same_located
