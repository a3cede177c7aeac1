-- Lines that may give requests up.
use Rattle.std.specs.Prelude.{Bool, true, false, if◌then◌else◌, List, [], ◌∷◌}
use Rattle.script.specs.declared.line.Line.{Line}
use Rattle.script.specs.declared.line.Line.TheVariants.{Put, Drop, Commit, Open, Ask, Action, Wait, Cancel, Close}

abbrev pub gives_up : Line → Bool
gives_up (Put path bytes) = false
gives_up (Drop path) = false
gives_up Commit = false
gives_up (Open t) = false
gives_up (Ask r) = false
gives_up (Action r) = false
gives_up (Wait name) = false
gives_up (Cancel name) = true
gives_up (Close t) = true

abbrev pub some_give_up : List Line → Bool
some_give_up [] = false
some_give_up (l ∷ ls) = if gives_up l then true else some_give_up ls
