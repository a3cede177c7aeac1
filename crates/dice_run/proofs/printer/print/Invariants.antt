use Rattle.std.proofs.Common.{drop}
use Rattle.dice_run.proofs.Printed.{Printing}
use Rattle.dice_run.proofs.printer.print.Given as goal

-- the lines so far were printed
abbrev pub invariant-loop-line : goal.invariant-loop-line
invariant-loop-line l = Printing l.script (drop l.line-index l.line-items) l.driver l.printer
