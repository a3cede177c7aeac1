use Rattle.std.proofs.Common.{◌≡◌, ◌+◌, drop}
use Rattle.spreadsheet.specs.Formulas.{before_operator}
use Rattle.spreadsheet.proofs.formula.before_operator.Given as goal

abbrev pub invariant-loop-i : goal.invariant-loop-i
invariant-loop-i l = l.i + before_operator (drop l.i l.text) ≡ before_operator l.text
