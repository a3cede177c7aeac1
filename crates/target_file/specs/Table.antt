-- The rules, their attributes, and which have no default.
use Rattle.std.specs.Prelude.{ℕ, Bool, true, false, if◌then◌else◌, List, [], ◌∷◌, codes, Option, Some, None}
use Rattle.std.specs.Str.{bytes_eq}
use Rattle.target_file.specs.declared.table.Rule.{Rule}
use Rattle.target_file.specs.declared.table.Rule.TheVariants.{ExportFile, Filegroup, WriteFile, Genrule, StampFile}
use Rattle.target_file.specs.declared.table.Attribute.{Attribute}
use Rattle.target_file.specs.declared.table.Attribute.TheVariants.{Name, Visibility, Labels, Src, Srcs, Out, Content, Cmd}
use Rattle.target_file.specs.declared.table.Form.{Form}
use Rattle.target_file.specs.declared.table.Form.TheVariants.{Path, Text, Command, Sources, Texts}

abbrev pub rule_of : List ℕ → Option Rule
rule_of w =
    if bytes_eq w (codes "export_file") then Some ExportFile else
    if bytes_eq w (codes "filegroup") then Some Filegroup else
    if bytes_eq w (codes "write_file") then Some WriteFile else
    if bytes_eq w (codes "genrule") then Some Genrule else
    if bytes_eq w (codes "stamp_file") then Some StampFile else None

abbrev pub attribute_of : List ℕ → Option Attribute
attribute_of w =
    if bytes_eq w (codes "name") then Some Name else
    if bytes_eq w (codes "visibility") then Some Visibility else
    if bytes_eq w (codes "labels") then Some Labels else
    if bytes_eq w (codes "src") then Some Src else
    if bytes_eq w (codes "srcs") then Some Srcs else
    if bytes_eq w (codes "out") then Some Out else
    if bytes_eq w (codes "content") then Some Content else
    if bytes_eq w (codes "cmd") then Some Cmd else None

-- the form of an attribute that the rule has
abbrev pub form_of : Rule → Attribute → Option Form
form_of r Name = Some Path
form_of r Visibility = Some Texts
form_of r Labels = Some Texts
form_of ExportFile Src = Some Path
form_of ExportFile Out = Some Path
form_of Filegroup Srcs = Some Sources
form_of WriteFile Content = Some Text
form_of WriteFile Out = Some Path
form_of Genrule Srcs = Some Sources
form_of Genrule Out = Some Path
form_of Genrule Cmd = Some Command
form_of StampFile Out = Some Path
form_of r a = None

-- the attributes without a default
abbrev pub needed : Rule → List Attribute
needed WriteFile = Name ∷ Content ∷ []
needed Genrule = Name ∷ Out ∷ Cmd ∷ []
needed ExportFile = Name ∷ []
needed Filegroup = Name ∷ []
needed StampFile = Name ∷ []

abbrev pub same_attribute : Attribute → Attribute → Bool
same_attribute Name Name = true
same_attribute Visibility Visibility = true
same_attribute Labels Labels = true
same_attribute Src Src = true
same_attribute Srcs Srcs = true
same_attribute Out Out = true
same_attribute Content Content = true
same_attribute Cmd Cmd = true
same_attribute a b = false
