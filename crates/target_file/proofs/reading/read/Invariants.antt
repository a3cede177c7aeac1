use Rattle.std.proofs.Common.{◌≤◌, ◌-◌, take, length}
use Rattle.target_file.specs.Code.{scan_of, state_of}
use Rattle.target_file.proofs.Held.{Held}
use Rattle.target_file.proofs.reading.read.Given as goal

-- what has been read is held by the reader
abbrev pub invariant-loop-at : goal.invariant-loop-at
invariant-loop-at l = record {
  fits : l.at ≤ length l.bytes;
  held : Held (take l.at l.bytes) (scan_of l.reader) (state_of l.reader.progress);
}

abbrev pub decreases-loop-at : goal.decreases-loop-at
decreases-loop-at l = length l.bytes - l.at
