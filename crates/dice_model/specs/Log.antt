-- The log of commits, and what is the input at a version.
use Rattle.std.specs.Prelude.{◌≡◌, ◌<◌, ℕ, Bool, List, [], ◌∷◌, length, take, map, unwrap_or}
use Rattle.std.specs.Arc.{arc_value}
use Rattle.std.specs.declared.sync.Arc.{Arc}
use Rattle.std.specs.declared.vec.Vec.{Vec}
use Rattle.std.specs.Map.{lookup, keys_of}
use Rattle.std.specs.List.{AllByRecursion}
use Rattle.dice_key.specs.Meaning.{Meaning}
use Rattle.dice_key.specs.declared.universe.Kind.TheVariants.{Injected}
use Rattle.lists.specs.Lists.{AreDistinct}

-- a log of commits, each a list of pairs of an injected key and its value; version v is what its
-- first v commits make
abbrev pub Log : Type 0 → Type 0 → Type 0
Log K V = List (List (K × V))

abbrev pub version_of : {K V : Type 0} → Log K V → ℕ → Log K V
version_of C v = take v C

-- a pair, without its place in memory
abbrev pub pair_of : {K V A B : Type 0} → Arc K A × Arc V B → K × V
pair_of p = (arc_value p.0, arc_value p.1)

abbrev pub pairs_of : {K V A B : Type 0} → List (Arc K A × Arc V B) → List (K × V)
pairs_of ps = map pair_of ps

abbrev pub commits_of : {K V A B C : Type 0} → List (Vec (Arc K A × Arc V B) C) → List (List (K × V))
commits_of cs = map (λ c. pairs_of c.items) cs

-- the value in the last commit that has one, otherwise x
abbrev pub last_value_of : {K V : Type 0} → (K → Bool) → V → List (List (K × V)) → V
last_value_of test x [] = x
last_value_of test x (c ∷ cs) = last_value_of test (unwrap_or (lookup test c) x) cs

module _ {K V : Type 0} (eq : K → K → Bool) (m : Meaning K V) where
  -- the input of an injected key at version v: its value in the last of the first v commits that
  -- has one, otherwise the absent one
  abbrev pub input : List (List (K × V)) → ℕ → K → V
  input C v k = last_value_of (eq k) (m.absent k) (version_of C v)

module _ {K V : Type 0} (m : Meaning K V) where
  -- a commit sets one or more injected keys, each once
  pub record IsCommit (c : List (K × V)) : Type 0 where
    pub some : 0 < length c
    pub injected : AllByRecursion (λ p. m.kind p.0 ≡ Injected) c
    pub distinct : AreDistinct (keys_of c)

  -- each of them is a commit
  abbrev pub IsLog : List (List (K × V)) → Type 0
  IsLog C = AllByRecursion IsCommit C
