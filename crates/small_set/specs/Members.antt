-- The members of a set.
use Rattle.std.specs.Prelude.{◌≤◌, Bool, List, length}
use Rattle.std.specs.List.{IsDistinct}
use Rattle.small_set.specs.declared.set.Members.{Members}
use Rattle.small_set.specs.declared.set.Members.TheVariants.{Single, Few, Many}

-- the members, in the order in which they came
abbrev pub members_in : {T : Type 0} → Members T → List T
members_in (Single one) = one
members_in (Few list) = list.items
members_in (Many set) = set.value.keys

-- one member is there, in the set itself
abbrev pub IsSingle : {T : Type 0} → Members T → Type 0
IsSingle (Single one) = Unit {0}
IsSingle (Few list) = ⊥
IsSingle (Many set) = ⊥

-- a list has at most eight
abbrev pub AreFew : {T : Type 0} → Members T → Type 0
AreFew (Single one) = Unit {0}
AreFew (Few list) = length list.items ≤ 8
AreFew (Many set) = Unit {0}

-- no two are equal, and if they are in a list, they are few
abbrev pub AreKept : {T : Type 0} → (T → T → Bool) → Members T → Type 0
AreKept eq ms = IsDistinct eq (members_in ms) × AreFew ms
