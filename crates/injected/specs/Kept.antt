-- How the sets of a key are kept. No public clause cites this module.
use Rattle.std.specs.Prelude.{[], ◌∷◌}
use Rattle.std.specs.Arc.{arc_value}
use Rattle.injected.specs.Seen.{Cell}
use Rattle.injected.specs.declared.history.Kept.{Kept}
use Rattle.injected.specs.declared.history.Kept.TheVariants.{Empty, Single, Many}

abbrev pub cell_in : {V : Type 0} → Kept V → Cell V
cell_in Empty = record { room = 1; sets = [] }
cell_in (Single version value) = record { room = 0; sets = (version, arc_value value) ∷ [] }
cell_in (Many sets) = sets.value

-- one set is there
abbrev pub IsSingle : {V : Type 0} → Kept V → Type 0
IsSingle Empty = ⊥
IsSingle (Single version value) = Unit {0}
IsSingle (Many sets) = ⊥
