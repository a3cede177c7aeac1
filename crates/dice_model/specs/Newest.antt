-- What the input of a key is, in words of commits alone.
use Rattle.std.specs.Prelude.{◌≡◌, List, ◌++◌, ◌∷◌}
use Rattle.std.specs.Map.{keys_of}
use Rattle.lists.specs.Lists.{Has}

-- none of these commits has a value for k
abbrev pub IsUnset : {K V : Type 0} → K → List (List (K × V)) → Type 0
IsUnset {K} {V} k C = (c : List (K × V)) → Has C c → Has (keys_of c) k → ⊥

-- x is the value for k in the last of these commits that has one
pub record IsNewest {K V : Type 0} (k : K) (x : V) (C : List (List (K × V))) : Type 0 where
  pub earlier : List (List (K × V))
  pub commit : List (K × V)
  pub later : List (List (K × V))
  pub parts : C ≡ earlier ++ commit ∷ later
  pub sets : Has commit (k, x)
  pub unset : IsUnset k later
