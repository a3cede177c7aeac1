-- What the spreadsheet means.
use Rattle.std.specs.Prelude.{◌+◌, ◌*◌, ◌-◌, ◌/◌, ◌^◌, ℕ, Bool, true, false, nat_le, nat_eq, if◌then◌else◌, List, [], ◌∷◌, ◌++◌, Result, Ok, Err, codes}
use Rattle.dice_key.specs.Meaning.{Step, Asks, Ends}
use Rattle.spreadsheet.specs.Formulas.{formula_of}
use Rattle.spreadsheet.specs.declared.cell.Cell.{Cell}
use Rattle.spreadsheet.specs.declared.cell.Key.{Key}
use Rattle.spreadsheet.specs.declared.cell.Key.TheVariants as key
use Rattle.spreadsheet.specs.declared.value.Fault.{Fault}
use Rattle.spreadsheet.specs.declared.value.Fault.TheVariants as fault
use Rattle.spreadsheet.specs.declared.value.Value.{Value}
use Rattle.spreadsheet.specs.declared.value.Value.TheVariants as value
use Rattle.spreadsheet.specs.declared.formula.Formula.{Formula}
use Rattle.spreadsheet.specs.declared.formula.Formula.TheVariants.{One, Two, Unreadable}
use Rattle.spreadsheet.specs.declared.formula.Term.TheVariants as term
use Rattle.spreadsheet.specs.declared.formula.Operator.{Operator}
use Rattle.spreadsheet.specs.declared.formula.Operator.TheVariants.{Plus, Minus, Times, Over}

abbrev pub is_text : Key → Bool
is_text (key.Text c) = true
is_text (key.Value c) = false

-- a number that 64 bits hold
abbrev pub in_range : ℕ → Result ℕ Fault
in_range n = if nat_le n (2 ^ 64 - 1) then Ok n else Err fault.OutOfRange

abbrev pub applied : Operator → ℕ → ℕ → Result ℕ Fault
applied Plus a b = in_range (a + b)
applied Minus a b = if nat_le b a then Ok (a - b) else Err fault.OutOfRange
applied Times a b = in_range (a * b)
applied Over a b = if nat_eq b 0 then Err fault.DividedByZero else Ok (a / b)

-- a fault goes on to what uses it, that on the left first
abbrev pub combined : Operator → Result ℕ Fault → Result ℕ Fault → Result ℕ Fault
combined o (Ok a) (Ok b) = applied o a b
combined o (Ok a) (Err f) = Err f
combined o (Err f) y = Err f

-- the number in a value; a text is none
abbrev pub number_in : Value → Result ℕ Fault
number_in (value.Number x) = x
number_in (value.Text t) = Err fault.Unreadable

abbrev pub first_in : List Value → Result ℕ Fault
first_in [] = Err fault.Unreadable
first_in (x ∷ xs) = number_in x

abbrev pub second_in : List Value → Result ℕ Fault
second_in [] = Err fault.Unreadable
second_in (x ∷ xs) = first_in xs

-- what a formula comes to, by the values of its cells
abbrev pub result_of : Formula → List Value → Result ℕ Fault
result_of (One (term.Number n)) xs = Ok n
result_of (One (term.Cell c)) xs = first_in xs
result_of (Two (term.Number m) o (term.Number n)) xs = applied o m n
result_of (Two (term.Number m) o (term.Cell d)) xs = combined o (Ok m) (first_in xs)
result_of (Two (term.Cell c) o (term.Number n)) xs = combined o (first_in xs) (Ok n)
result_of (Two (term.Cell c) o (term.Cell d)) xs = combined o (first_in xs) (second_in xs)
result_of Unreadable xs = Err fault.Unreadable

-- what a formula asks: the values of its cells, if it has any
abbrev pub asked_by : Formula → Step Key Value
asked_by (One (term.Cell c)) = Asks (key.Value c ∷ [])
asked_by (Two (term.Number m) o (term.Cell d)) = Asks (key.Value d ∷ [])
asked_by (Two (term.Cell c) o (term.Number n)) = Asks (key.Value c ∷ [])
asked_by (Two (term.Cell c) o (term.Cell d)) = Asks (key.Value c ∷ key.Value d ∷ [])
asked_by f = Ends (value.Number (result_of f []))

-- the formula in the text that answers a batch
abbrev pub formula_in : List Value → Formula
formula_in (value.Text t ∷ xs) = formula_of t
formula_in xs = Unreadable

-- what a key asks next or is, by the answers to its batches so far
abbrev pub next_move : Key → List (List Value) → Step Key Value
next_move (key.Text c) A = Ends (value.Number (Err fault.Unreadable))
next_move (key.Value c) [] = Asks (key.Text c ∷ [])
next_move (key.Value c) (xs ∷ []) = asked_by (formula_in xs)
next_move (key.Value c) (xs ∷ ys ∷ A) = Ends (value.Number (result_of (formula_in xs) ys))

abbrev pub name_of : Cell → List ℕ
name_of c = c.column ∷ c.row ∷ []

abbrev pub text_of : Key → Bool → List ℕ
text_of (key.Text c) true = name_of c
text_of (key.Text c) false = codes "text " ++ name_of c
text_of (key.Value c) true = name_of c
text_of (key.Value c) false = codes "value " ++ name_of c
