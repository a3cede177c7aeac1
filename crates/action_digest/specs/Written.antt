-- What a target file names, as seen from the root.
use Rattle.std.specs.Prelude.{ℕ, if◌then◌else◌, nat_eq, List, [], ◌∷◌, ◌++◌, length, drop}
use Rattle.buck_label.specs.Labels.{printed, before_colon, last_from, within}
use Rattle.target_file.specs.declared.source.Source.{Source}
use Rattle.target_file.specs.declared.source.Source.TheVariants as source
use Rattle.action_digest.specs.declared.key.Key.{Key}
use Rattle.action_digest.specs.declared.key.Key.TheVariants as key

-- an absolute label in full: if it has no colon, the target is the last segment of the package
abbrev pub in_full : List ℕ → List ℕ
in_full text = if nat_eq (before_colon text) (length text) then text ++ 58 ∷ last_from (drop 2 text) (drop 2 text) else text

-- a label of the target file of a package, in full: `:NAME` is of that package
abbrev pub full_label : List ℕ → List ℕ → List ℕ
full_label home [] = []
full_label home (b ∷ text) = if nat_eq b 58 then printed (record { home = home; target = text }) else in_full (b ∷ text)

-- the key that is asked for a source, in the target file of a package: the bytes of a file, or the
-- digest of a target
abbrev pub key_in : List ℕ → Source → Key
key_in home (source.Path path) = key.Source (within home path)
key_in home (source.Label text) = key.Digest (full_label home text)
