-- What a look-up answers.
use Rattle.std.specs.Prelude.{ℕ, Bool, cond, List, Option, Some, None}
use Rattle.std.specs.Arc.{arc_value}
use Rattle.dice_key.specs.Meaning.{Answered}
use Rattle.versioned_graph.specs.Entries.{Kept}
use Rattle.versioned_graph.specs.declared.found.Found.{Found}
use Rattle.versioned_graph.specs.declared.found.Found.TheVariants.{Match, Compute, CheckDeps}
use Rattle.versioned_graph.specs.declared.found.Why.{Why}
use Rattle.versioned_graph.specs.declared.found.Why.TheVariants.{New, Transient}

-- an answer, without its place in memory: a value that matches; that the key has to be computed,
-- and why; a value whose dependencies have to be checked
pub data Look (K V : Type 0) : Type 0 where
  Matches : V → ℕ → Look K V
  Computes : Why → Look K V
  Checks : V → List (Answered K V) → ℕ → Look K V

abbrev pub look_of : {U K V R : Type 0} → Found U K V R → Look K V
look_of (Match x v) = Matches (arc_value x.now) v
look_of (Compute y) = Computes y
look_of (CheckDeps x t v) = Checks (arc_value x.now) (arc_value t.now) v

-- what is answered at a version; the first case that holds: the entry's ranges have the version;
-- there is no entry; its value is transient; or none of these
abbrev pub look : {K V : Type 0} → (V → Bool) → Option (Kept K V) → ℕ → Look K V
look is_transient None v = Computes New
look is_transient (Some e) v = cond (e.ranges v) (Matches e.value e.version) (cond (is_transient e.value) (Computes (Transient e.version)) (Checks e.value e.trace e.version))
