-- Equality of sources is exact.
use Rattle.std.specs.Prelude.{◌≡◌, ℕ, Bool, true, List, refl}
use Rattle.std.specs.Bool.{Decides}
use Rattle.std.specs.Cmp.{IsEquivalence, decided}
use Rattle.std.specs.Cmp.Lexicographic.{pointwise, bytes_decides, pointwise_decides}
use Rattle.std.proofs.Common.{ap, subst}
use Rattle.target_file.specs.declared.source.Source.{Source}
use Rattle.target_file.specs.declared.source.Source.TheVariants.{Path, Label}
use Rattle.target_file.specs.contracts.source.SourcePartialEq.TheImpl as source_eq
use Rattle.target_file.specs.contracts.source.SourceHash.TheImpl as source_hash

abbrev pub same_source : Source → Source → Bool
same_source = source_eq.ghosts.eq

-- what a hasher is fed of a source
abbrev pub source_fed : Source → List (List ℕ)
source_fed = source_hash.ghosts.hash_input

same_self : (x : Source) → same_source x x ≡ true
same_self (Path p) = (bytes_decides p p).1 refl
same_self (Label l) = (bytes_decides l l).1 refl

only_same : (x y : Source) → same_source x y ≡ true → x ≡ y
only_same (Path p) (Path q) h = ap Path ((bytes_decides p q).0 h)
only_same (Label k) (Label l) h = ap Label ((bytes_decides k l).0 h)
only_same x y h = cc

pub source_decides : (x y : Source) → Decides (same_source x y) (x ≡ y)
source_decides x y = (only_same x y, λ e. subst (λ (z : Source). same_source x z ≡ true) e (same_self x))

abbrev pub same_sources : List Source → List Source → Bool
same_sources = pointwise same_source

pub sources_decide : (x y : List Source) → Decides (same_sources x y) (x ≡ y)
sources_decide = pointwise_decides source_decides

pub sources_equiv : IsEquivalence same_sources
sources_equiv = decided same_sources sources_decide
