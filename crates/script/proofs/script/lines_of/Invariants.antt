use Rattle.std.proofs.Common.{◌≤◌, ◌-◌, length, drop}
use Rattle.script.specs.Known.{past_of}
use Rattle.script.proofs.Reached.{Reached}
use Rattle.script.proofs.script.lines_of.Given as goal

abbrev pub invariant-loop-at : goal.invariant-loop-at
invariant-loop-at l = record {
  fits : l.at ≤ length l.bytes;
  reached : Reached l.bytes (past_of l.known) l.lines.items (drop l.at l.bytes);
}

abbrev pub decreases-loop-at : goal.decreases-loop-at
decreases-loop-at l = length l.bytes - l.at
