-- What a tracker knows of a version.
use Rattle.std.specs.Prelude.{ℕ, nat_eq, List, unwrap_or}
use Rattle.std.specs.Map.{lookup}
use Rattle.version_epoch.specs.declared.open_versions.Standing.{Standing}

-- how a version stands; one that is not listed was never opened
abbrev pub standing_of : List (ℕ × Standing) → ℕ → Standing
standing_of ss v = unwrap_or (lookup (nat_eq v) ss) record { count = 0; epoch = 0 }

-- how many transactions are open at a version: its opens less its closes
abbrev pub open_count_of : List (ℕ × Standing) → ℕ → ℕ
open_count_of ss v = (standing_of ss v).count

-- how many epochs of a version have begun: how often it was opened when none was open
abbrev pub epoch_of : List (ℕ × Standing) → ℕ → ℕ
epoch_of ss v = (standing_of ss v).epoch
