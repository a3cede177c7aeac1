-- What a file's parts are seen as.
use Rattle.std.specs.Prelude.{◌+◌, ℕ, if◌then◌else◌, List, [], ◌∷◌, map, Option, Some, None}
use Rattle.std.specs.Str.{bytes_eq}
use Rattle.std.specs.Arc.{arc_value}
use Rattle.target_file.specs.Targets as targets
use Rattle.target_file.specs.declared.file.Located.{Located}

abbrev pub located_of : Located → targets.Located
located_of l = record { line = l.line; target = arc_value l.target }

abbrev pub all_of : List Located → List targets.Located
all_of ls = map located_of ls

-- the number of the first target of this name, counted from n
abbrev pub number_at : ℕ → List ℕ → List targets.Located → Option ℕ
number_at n q [] = None
number_at n q (l ∷ ls) = if bytes_eq q l.target.name then Some n else number_at (n + 1) q ls
