-- Keys that print as one word after the word of their kind.
use Rattle.std.specs.Prelude.{◌≡◌, ℕ, Bool, true, not, ◌&&◌, nat_eq, List}
use Rattle.std.specs.List.{AllByRecursion, list_all}
use Rattle.journal.specs.declared.event.Told.{Told}
use Rattle.journal.specs.declared.event.Told.TheVariants.{Commit, Open, Close, Ask, Leave, Start, Keep, End, Cyclic, Drop, Lost}
use Rattle.journal.specs.declared.event.Reason.{Reason}
use Rattle.journal.specs.declared.event.Reason.TheVariants.{New, Transient, Differs}
use Rattle.action_digest.specs.declared.key.Key.{Key}
use Rattle.action_digest.specs.declared.value.Value.{Value}
use Rattle.action_digest.specs.Buck.{short_text}

-- no space and no line feed
abbrev pub is_word : List ℕ → Bool
is_word text = list_all (λ b. not (nat_eq b 32) && not (nat_eq b 10)) text

abbrev pub IsWord : List ℕ → Type 0
IsWord text = is_word text ≡ true

-- such is the path, package or label of a key
abbrev pub IsSpelled : Key → Type 0
IsSpelled k = IsWord (short_text k)

abbrev pub ReasonIsSpelled : Reason Key → Type 0
ReasonIsSpelled New = Unit {0}
ReasonIsSpelled (Transient b) = Unit {0}
ReasonIsSpelled (Differs b d) = IsSpelled d

-- and of each key that the event tells
abbrev pub TellsSpelled : Told Key Value → Type 0
TellsSpelled (Commit by c) = AllByRecursion (λ (p : Key × Value). IsSpelled p.0) c
TellsSpelled (Open by v) = Unit {0}
TellsSpelled (Close by t) = Unit {0}
TellsSpelled (Ask by t k) = IsSpelled k
TellsSpelled (Leave by a) = Unit {0}
TellsSpelled (Start v k c) = IsSpelled k × ReasonIsSpelled c
TellsSpelled (Keep v k b) = IsSpelled k
TellsSpelled (End v k) = IsSpelled k
TellsSpelled (Cyclic v k) = IsSpelled k
TellsSpelled (Drop v k) = IsSpelled k
TellsSpelled (Lost v k) = IsSpelled k

abbrev pub AreSpelled : List (Told Key Value) → Type 0
AreSpelled J = AllByRecursion TellsSpelled J
