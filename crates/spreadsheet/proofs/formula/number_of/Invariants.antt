use Rattle.std.proofs.Common.{◌≡◌, drop}
use Rattle.spreadsheet.specs.Formulas.{digits_from}
use Rattle.spreadsheet.proofs.formula.number_of.Given as goal

abbrev pub invariant-loop-i : goal.invariant-loop-i
invariant-loop-i l = digits_from l.number (drop l.i l.digits) ≡ digits_from 0 l.digits
