-- The changes of a commit.
use Rattle.std.specs.Prelude.{◌≡◌, Bool, not, List, [], ◌∷◌, ◌++◌, length}
use Rattle.std.specs.Map.{keys_of}
use Rattle.std.specs.List.{AllByRecursion}
use Rattle.dice_key.specs.declared.universe.Kind.TheVariants.{Injected}
use Rattle.dice_model.specs.Log.{input}
use Rattle.action_digest.specs.declared.key.Key.{Key}
use Rattle.action_digest.specs.declared.value.Value.{Value}
use Rattle.action_digest.specs.Buck.{buck}
use Rattle.action_digest.specs.Same.{key_equal, value_equal}
use Rattle.lists.specs.Lists.{AreDistinct}

-- whether a pair's value is not the newest one
abbrev pub differs_from : List (List (Key × Value)) → Key × Value → Bool
differs_from C q = not (value_equal (input key_equal buck C (length C) q.0) q.1)

-- these are pairs of distinct sources
pub record AreDistinctSources (ps : List (Key × Value)) : Type 0 where
  pub sources : AllByRecursion (λ (p : Key × Value). buck.kind p.0 ≡ Injected) ps
  pub distinct : AreDistinct (keys_of ps)

-- a log with one commit more, if it has any pairs
abbrev pub with_pairs : List (List (Key × Value)) → List (Key × Value) → List (List (Key × Value))
with_pairs C [] = C
with_pairs C (q ∷ qs) = C ++ (q ∷ qs) ∷ []
