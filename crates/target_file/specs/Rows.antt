-- Worked texts.
use Rattle.std.specs.Prelude.{ℕ, List, [], ◌∷◌, codes}
use Rattle.target_file.specs.Targets.{Located}
use Rattle.target_file.specs.declared.source.Source.TheVariants as source
use Rattle.target_file.specs.declared.action.Action.TheVariants as action

abbrev pub w_text : List ℕ
w_text = codes "write_file(name='w',content='a')"

abbrev pub w_file : List Located
w_file = record { line = 1; target = record { name = codes "w"; visibility = []; labels = []; action = action.WriteFile (codes "a") (codes "w") } } ∷ []

-- a label and a path among the sources, and a label in the command
abbrev pub g_command : List ℕ
g_command = codes "cat $(location :w)"

abbrev pub g_text : List ℕ
g_text = codes "genrule(name='g',srcs=['f','//a',],out='o',cmd='cat $(location :w)')"

abbrev pub g_file : List Located
g_file =
    record {
      line = 1;
      target = record { name = codes "g"; visibility = []; labels = []; action = action.Genrule (source.Path (codes "f") ∷ source.Label (codes "//a") ∷ []) (codes "o") g_command };
    } ∷ []
