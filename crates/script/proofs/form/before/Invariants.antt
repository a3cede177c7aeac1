use Rattle.std.proofs.Common.{◌≡◌, ◌+◌, drop}
use Rattle.script.specs.Lines.{before}
use Rattle.script.proofs.form.before.Given as goal

abbrev pub invariant-loop-i : goal.invariant-loop-i
invariant-loop-i l = l.i + before l.mark (drop l.i l.bytes) ≡ before l.mark l.bytes
