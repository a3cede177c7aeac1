-- The laws of the spreadsheet.
use Rattle.std.specs.Prelude.{◌≡◌, ◌≤◌, nat_eq, List, [], ◌∷◌, Err, length, refl}
use Rattle.std.proofs.Common.{ap, arith}
use Rattle.dice_key.specs.Meaning.{Ends}
use Rattle.dice_key.specs.Lawful.{SameKeys, AreSame}
use Rattle.dice_key.specs.Same.{same_number, same_text, same_result, tied_two_numbers}
use Rattle.spreadsheet.specs.contracts.cell.CellOrd.TheImpl as by_cell
use Rattle.spreadsheet.specs.contracts.cell.KeyOrd.TheImpl as by_key
use Rattle.spreadsheet.specs.contracts.value.FaultPartialEq.TheImpl as faulty
use Rattle.spreadsheet.specs.contracts.value.ValuePartialEq.TheImpl as valued
use Rattle.spreadsheet.specs.declared.cell.Key.{Key}
use Rattle.spreadsheet.specs.declared.cell.Key.TheVariants as key
use Rattle.spreadsheet.specs.declared.value.Fault.TheVariants.{Unreadable, OutOfRange, DividedByZero}
use Rattle.spreadsheet.specs.declared.value.Value.{Value}
use Rattle.spreadsheet.specs.declared.value.Value.TheVariants as value
use Rattle.spreadsheet.specs.Sheet.{next_move, result_of, formula_in}

-- after two answered batches a key is done
pub ends : (k : Key) (A : List (List Value)) → 2 ≤ length A → (x : Value) × (next_move k A ≡ Ends x)
ends (key.Text c) A h = (value.Number (Err Unreadable), refl)
ends (key.Value c) [] h = absurd (omega arith)
ends (key.Value c) (xs ∷ []) h = absurd (omega arith)
ends (key.Value c) (xs ∷ ys ∷ A) h = (value.Number (result_of (formula_in xs) ys), refl)

same_cells : SameKeys by_cell.ghosts.cmp
same_cells c d h = tied_two_numbers (λ a b. record { column = a; row = b }) c.column c.row d.column d.row h

pub same_keys : SameKeys by_key.ghosts.cmp
same_keys (key.Text c) (key.Text d) h = ap key.Text (same_cells c d h)
same_keys (key.Value c) (key.Value d) h = ap key.Value (same_cells c d h)
same_keys x y h = cc

same_faults : AreSame faulty.ghosts.eq
same_faults Unreadable Unreadable h = refl
same_faults OutOfRange OutOfRange h = refl
same_faults DividedByZero DividedByZero h = refl
same_faults x y h = cc

pub equal_values : AreSame valued.ghosts.eq
equal_values (value.Text s) (value.Text t) h = ap value.Text (same_text s t h)
equal_values (value.Number x) (value.Number y) h = ap value.Number (same_result nat_eq faulty.ghosts.eq same_number same_faults x y h)
equal_values x y h = cc
