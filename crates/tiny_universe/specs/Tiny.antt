-- What the tiny universe means.
use Rattle.std.specs.Prelude.{◌+◌, ◌%◌, ◌^◌, ℕ, Bool, true, false, not, List, [], ◌∷◌, ◌++◌, Option, Some, None}
use Rattle.std.specs.Fmt.{decimal}
use Rattle.dice_key.specs.Meaning.{Meaning, Answered, Step, Asks, Ends, answered_with}
use Rattle.dice_key.specs.declared.universe.Kind.{Kind}
use Rattle.dice_key.specs.declared.universe.Kind.TheVariants.{Injected, Computed, Projection}
use Rattle.tiny_universe.specs.declared.place.Place.{Place}
use Rattle.tiny_universe.specs.declared.place.Place.TheVariants.{Cell, Follow, Parity, Sum, Clock, Ring}
use Rattle.tiny_universe.specs.declared.place.Value.{Value}
use Rattle.tiny_universe.specs.declared.place.Value.TheVariants.{Number, Reading}

-- the number in a value
abbrev pub number_in : Value → ℕ
number_in (Number x) = x
number_in (Reading x) = x

-- the number in the first value of a batch's answers, and that in the second; 0 if there is none
abbrev pub first_in : List Value → ℕ
first_in [] = 0
first_in (x ∷ xs) = number_in x

abbrev pub second_in : List Value → ℕ
second_in [] = 0
second_in (x ∷ xs) = first_in xs

abbrev pub kind_of : Place → Kind
kind_of (Cell n) = Injected
kind_of (Follow n) = Computed
kind_of (Parity n) = Projection
kind_of (Sum a b) = Computed
kind_of Clock = Computed
kind_of (Ring b) = Computed

-- the cell that the answers to a batch of one cell lead to
abbrev pub followed : List Value → Place
followed xs = Cell (first_in xs % 2 ^ 32)

-- the next move. A cell makes none: it is injected
abbrev pub next_move : Place → List (Answered Place Value) → ℕ → Step Place Value
next_move (Cell n) A v = Ends (Number 0)
next_move (Follow n) [] v = Asks (Cell n ∷ [])
next_move (Follow n) (a ∷ []) v = Asks (followed a.values ∷ [])
next_move (Follow n) (a ∷ b ∷ A) v = Ends (Number (first_in b.values))
next_move (Parity n) [] v = Asks (Follow n ∷ [])
next_move (Parity n) (a ∷ A) v = Ends (Number (first_in a.values % 2))
next_move (Sum n l) [] v = Asks (Cell n ∷ Cell l ∷ [])
next_move (Sum n l) (a ∷ A) v = Ends (Number ((first_in a.values + second_in a.values) % 2 ^ 64))
next_move Clock A v = Ends (Reading v)
next_move (Ring b) [] v = Asks (Ring (not b) ∷ [])
next_move (Ring b) (a ∷ A) v = Ends (Number (first_in a.values))

abbrev pub most_of : Place → ℕ
most_of (Cell n) = 0
most_of (Follow n) = 2
most_of (Parity n) = 1
most_of (Sum a b) = 1
most_of Clock = 0
most_of (Ring b) = 1

-- the base of a parity; another key has none, and stands for itself
abbrev pub base_of : Place → Place
base_of (Cell n) = Cell n
base_of (Follow n) = Follow n
base_of (Parity n) = Follow n
base_of (Sum a b) = Sum a b
base_of Clock = Clock
base_of (Ring b) = Ring b

abbrev pub is_reading : Value → Bool
is_reading (Number x) = false
is_reading (Reading x) = true

-- the texts 'cell ', 'follow ', 'parity ', 'sum ', ' ', 'clock', 'ring ', 'true' and 'false'
abbrev pub truth : Bool → List ℕ
truth true = 116 ∷ 114 ∷ 117 ∷ 101 ∷ []
truth false = 102 ∷ 97 ∷ 108 ∷ 115 ∷ 101 ∷ []

-- what a key is of: its numbers, or a word
abbrev pub subject : Place → List ℕ
subject (Cell n) = decimal n
subject (Follow n) = decimal n
subject (Parity n) = decimal n
subject (Sum a b) = decimal a ++ 32 ∷ decimal b
subject Clock = 99 ∷ 108 ∷ 111 ∷ 99 ∷ 107 ∷ []
subject (Ring b) = truth b

-- the word for the kind of key, and a blank; a clock needs none
abbrev pub title : Place → List ℕ
title (Cell n) = 99 ∷ 101 ∷ 108 ∷ 108 ∷ 32 ∷ []
title (Follow n) = 102 ∷ 111 ∷ 108 ∷ 108 ∷ 111 ∷ 119 ∷ 32 ∷ []
title (Parity n) = 112 ∷ 97 ∷ 114 ∷ 105 ∷ 116 ∷ 121 ∷ 32 ∷ []
title (Sum a b) = 115 ∷ 117 ∷ 109 ∷ 32 ∷ []
title Clock = []
title (Ring b) = 114 ∷ 105 ∷ 110 ∷ 103 ∷ 32 ∷ []

-- the text of a key: its subject alone if short
abbrev pub text_of : Place → Bool → List ℕ
text_of k true = subject k
text_of k false = title k ++ subject k

abbrev pub tiny : Meaning Place Value
tiny = record {
  kind = kind_of;
  absent = λ k. Number 0;
  next = next_move;
  is_transient = is_reading;
  most = most_of;
  base = base_of;
  project = λ k x. Number (number_in x % 2);
  text = text_of;
}

-- the batches that a run was answered, from the answers to its first and to its second batch
abbrev pub batches : Place → ℕ → Option (List Value) → Option (List Value) → List (Answered Place Value)
batches k v None ys = []
batches k v (Some xs) None = answered_with (next_move k [] v) [] xs
batches k v (Some xs) (Some ys) = answered_with (next_move k (answered_with (next_move k [] v) [] xs) v) (answered_with (next_move k [] v) [] xs) ys
