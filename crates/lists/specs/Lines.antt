-- The lines of a text, as a list of its bytes.
use Rattle.std.specs.Prelude.{◌+◌, ℕ, nat_eq, if◌then◌else◌, List, [], ◌∷◌}

-- how many LFs
abbrev pub line_feeds : List ℕ → ℕ
line_feeds [] = 0
line_feeds (b ∷ bs) = (if nat_eq b 10 then 1 else 0) + line_feeds bs
