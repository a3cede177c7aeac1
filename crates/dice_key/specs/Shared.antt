-- What a list of pointers stands for.
use Rattle.std.specs.Prelude.{List, [], ◌∷◌, map, Option, Some, None}
use Rattle.std.specs.Arc.{arc_value}
use Rattle.std.specs.declared.sync.Arc.{Arc}
use Rattle.std.specs.declared.alloc.Global.{Global}
use Rattle.dice_key.specs.declared.shared.Shared.{Shared}
use Rattle.dice_key.specs.declared.shared.Shared.TheVariants as shared

abbrev pub values_of : {T : Type 0} → Shared T → List T
values_of (shared.None alloc) = []
values_of (shared.One alloc item) = arc_value item ∷ []
values_of (shared.Many items) = map arc_value items.items

-- the pointer that lies in place
abbrev pub only_of : {T : Type 0} → Shared T → Option (Arc T Global)
only_of (shared.One alloc item) = Some item
only_of s = None
