-- What the texts of cells say.
use Rattle.std.specs.Prelude.{◌+◌, ◌*◌, ◌-◌, ℕ, Bool, true, false, ◌&&◌, nat_le, nat_eq, if◌then◌else◌, List, [], ◌∷◌, length, take, drop, Option, Some, None}
use Rattle.spreadsheet.specs.declared.cell.Cell.{Cell}
use Rattle.spreadsheet.specs.declared.formula.Formula.{Formula}
use Rattle.spreadsheet.specs.declared.formula.Formula.TheVariants.{One, Two, Unreadable}
use Rattle.spreadsheet.specs.declared.formula.Term.{Term}
use Rattle.spreadsheet.specs.declared.formula.Term.TheVariants as term
use Rattle.spreadsheet.specs.declared.formula.Operator.{Operator}
use Rattle.spreadsheet.specs.declared.formula.Operator.TheVariants.{Plus, Minus, Times, Over}

-- a letter from A to Z and a digit
abbrev pub is_cell : ℕ → ℕ → Bool
is_cell c r = (nat_le 65 c && nat_le c 90) && (nat_le 48 r && nat_le r 57)

abbrev pub cell_of : List ℕ → Option Cell
cell_of (c ∷ r ∷ []) = if is_cell c r then Some (record { column = c; row = r }) else None
cell_of text = None

-- the number of the digits after those of a number; one that is above a tenth of 2^64 is not read
-- on
abbrev pub digits_from : ℕ → List ℕ → Option ℕ
digits_from n [] = Some n
digits_from n (b ∷ bs) = if nat_le 48 b && nat_le b 57 && nat_le n 1844674407370955160 then digits_from (n * 10 + (b - 48)) bs else None

abbrev pub number_term : Option ℕ → Option Term
number_term (Some n) = Some (term.Number n)
number_term None = None

abbrev pub or_number : Option Cell → List ℕ → Option Term
or_number (Some c) text = Some (term.Cell c)
or_number None text = number_term (digits_from 0 text)

-- a cell, or one digit or more
abbrev pub term_of : List ℕ → Option Term
term_of [] = None
term_of (b ∷ bs) = or_number (cell_of (b ∷ bs)) (b ∷ bs)

-- the signs + - * /
abbrev pub operator_of : ℕ → Option Operator
operator_of b =
    if nat_eq b 43 then Some Plus else (if nat_eq b 45 then Some Minus else (if nat_eq b 42 then Some Times else (if nat_eq b 47 then Some Over else None)))

abbrev pub is_other : Option Operator → Bool
is_other None = true
is_other (Some o) = false

-- how many bytes stand before the first operator
abbrev pub before_operator : List ℕ → ℕ
before_operator [] = 0
before_operator (b ∷ bs) = if is_other (operator_of b) then before_operator bs + 1 else 0

abbrev pub one_of : Option Term → Formula
one_of (Some t) = One t
one_of None = Unreadable

abbrev pub two_of : Option Term → Option Operator → Option Term → Formula
two_of (Some t) (Some o) (Some u) = Two t o u
two_of t o u = Unreadable

-- the first of these, if there is one
abbrev pub first_operator : List ℕ → Option Operator
first_operator [] = None
first_operator (b ∷ bs) = operator_of b

-- a term, or two with an operator between them; nothing at all stands for 0
abbrev pub formula_at : ℕ → List ℕ → Formula
formula_at n text =
    if nat_eq n (length text) then one_of (term_of text) else two_of (term_of (take n text)) (first_operator (drop n text)) (term_of (drop (n + 1) text))

abbrev pub formula_of : List ℕ → Formula
formula_of [] = One (term.Number 0)
formula_of (b ∷ bs) = formula_at (before_operator (b ∷ bs)) (b ∷ bs)
