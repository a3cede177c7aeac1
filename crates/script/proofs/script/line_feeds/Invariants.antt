use Rattle.std.proofs.Common.{◌≡◌, ◌≤◌, ◌+◌, drop}
use Rattle.script.proofs.script.line_feeds.Given as goal
use Rattle.lists.specs.Lines.{line_feeds}

abbrev pub invariant-loop-byte : goal.invariant-loop-byte
invariant-loop-byte l = record {
  count : l.count + line_feeds (drop l.byte-index l.bytes) ≡ line_feeds l.bytes;
  fits : l.count ≤ l.byte-index;
}
