use Rattle.std.proofs.Common.{drop}
use Rattle.dice_run.specs.Driven.{Waiting}
use Rattle.dice_run.proofs.driver.Driver.settle.Given as goal

-- the requests that are still to be waited for stand among the lines that are left
abbrev pub invariant-loop-line : goal.invariant-loop-line
invariant-loop-line g l = Waiting l.engine l.script (drop l.line-index l.line-items) l.self
