use Rattle.std.proofs.Common.{◌↔◌, drop}
use Rattle.script.specs.Lines.{AreNameBytes}
use Rattle.script.proofs.name.are_name_bytes.Given as goal

abbrev pub invariant-loop-byte : goal.invariant-loop-byte
invariant-loop-byte l = AreNameBytes l.bytes ↔ AreNameBytes (drop l.byte-index l.bytes)
