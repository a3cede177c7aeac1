use Rattle.std.proofs.Common.{◌≡◌, drop}
use Rattle.script.specs.GivingUp.{some_give_up}
use Rattle.script.proofs.script.some_give_up.Given as goal

abbrev pub invariant-loop-line : goal.invariant-loop-line
invariant-loop-line l = some_give_up (drop l.line-index l.lines) ≡ some_give_up l.lines
