-- Cycles, as lists of labels.
use Rattle.std.specs.Prelude.{◌≡◌, ℕ, false, List, [], ◌∷◌}
use Rattle.std.specs.Ordering.{nat_cmp, is_gt}
use Rattle.std.specs.Cmp.Lexicographic.{slice_cmp}
use Rattle.std.specs.List.{AllByRecursion}
use Rattle.dice_model.specs.Asks.{Reaches, IsCycle}
use Rattle.action_digest.specs.declared.key.Key.{Key}
use Rattle.action_digest.specs.declared.key.Key.TheVariants as key
use Rattle.action_digest.specs.declared.value.Value.{Value}
use Rattle.action_digest.specs.Buck.{buck}
use Rattle.action_digest.specs.Same.{key_equal}
use Rattle.lists.specs.Lists.{AreDistinct}

-- the keys of these targets, in a cycle: each one's digest asks its action, and this the next one's
-- digest
abbrev pub keys_of : List (List ℕ) → List Key
keys_of [] = []
keys_of (l ∷ ls) = key.Digest l ∷ key.Action l ∷ keys_of ls

-- the labels whose digests are among the keys, in order
abbrev pub labels_of : List Key → List (List ℕ)
labels_of [] = []
labels_of (key.Source p ∷ ks) = labels_of ks
labels_of (key.Package p ∷ ks) = labels_of ks
labels_of (key.Rule l ∷ ks) = labels_of ks
labels_of (key.Action l ∷ ks) = labels_of ks
labels_of (key.Digest l ∷ ks) = l ∷ labels_of ks

-- by the order of labels, which is that of the bytes that they print
abbrev pub IsAtMost : List ℕ → List ℕ → Type 0
IsAtMost l m = is_gt (slice_cmp nat_cmp l m) ≡ false

abbrev pub BeginsWithLeast : List (List ℕ) → Type 0
BeginsWithLeast [] = ⊥
BeginsWithLeast (l ∷ ls) = AllByRecursion (IsAtMost l) ls

module _ (C : List (List (Key × Value))) (v : ℕ) where
  -- each target asks for the next one's digest, and the last for the first one's; the first label
  -- is the least
  pub record IsLabelCycle (ls : List (List ℕ)) : Type 0 where
    pub cycle : IsCycle key_equal buck C v (keys_of ls)
    pub distinct : AreDistinct ls
    pub least : BeginsWithLeast ls

  -- k reaches the first of the keys
  abbrev pub ReachesFirst : Key → List Key → Type 0
  ReachesFirst k [] = ⊥
  ReachesFirst k (j ∷ js) = Reaches key_equal buck C v k j
