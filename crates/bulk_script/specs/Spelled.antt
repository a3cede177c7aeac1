-- How the lines of a script are written.
use Rattle.std.specs.Prelude.{ℕ, List, [], ◌∷◌, ◌++◌, codes, decimal, length, flat_map}
use Rattle.script.specs.declared.line.Line.{Line}
use Rattle.script.specs.declared.line.Line.TheVariants.{Put, Drop, Commit, Open, Ask, Action, Wait, Cancel, Close}

-- words with a space between each two, and an LF at the end
abbrev pub spaced : List (List ℕ) → List ℕ
spaced [] = 10 ∷ []
spaced (w ∷ []) = w ++ 10 ∷ []
spaced (w ∷ v ∷ ws) = w ++ 32 ∷ spaced (v ∷ ws)

-- a line as it is written; after a put stand its bytes and an LF
abbrev pub spelled : Line → List ℕ
spelled (Put path bytes) = spaced (codes "put" ∷ path ∷ decimal (length bytes) ∷ []) ++ bytes ++ 10 ∷ []
spelled (Drop path) = spaced (codes "drop" ∷ path ∷ [])
spelled Commit = spaced (codes "commit" ∷ [])
spelled (Open t) = spaced (codes "open" ∷ t ∷ [])
spelled (Ask r) = spaced (codes "ask" ∷ r.transaction ∷ r.name ∷ r.label ∷ [])
spelled (Action r) = spaced (codes "action" ∷ r.transaction ∷ r.name ∷ r.label ∷ [])
spelled (Wait name) = spaced (codes "wait" ∷ name ∷ [])
spelled (Cancel name) = spaced (codes "cancel" ∷ name ∷ [])
spelled (Close t) = spaced (codes "close" ∷ t ∷ [])

-- the text of a whole script
unfoldable pub text_of : List Line → List ℕ
text_of ls = flat_map spelled ls
