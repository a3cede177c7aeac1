use Rattle.std.proofs.Common.{drop}
use Rattle.dice_run.specs.Driven.{Closing}
use Rattle.dice_run.proofs.driver.Driver.close_all.Given as goal

-- the transactions that are still to be closed were opened in the lines that are left
abbrev pub invariant-loop-line : goal.invariant-loop-line
invariant-loop-line g l = Closing l.engine l.script (drop l.line-index l.line-items) l.self
