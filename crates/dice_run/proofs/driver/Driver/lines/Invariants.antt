use Rattle.std.proofs.Common.{drop}
use Rattle.dice_run.proofs.Ending.{Going}
use Rattle.dice_run.proofs.driver.Driver.lines.Given as goal

-- the driver stands after the lines that were carried out
abbrev pub invariant-loop-line : goal.invariant-loop-line
invariant-loop-line g l = Going l.engine l.script (drop l.line-index l.line-items) l.self
