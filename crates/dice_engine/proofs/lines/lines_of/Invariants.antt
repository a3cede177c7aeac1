use Rattle.std.proofs.Common.{take}
use Rattle.dice_engine.specs.Lines.{AreLines}
use Rattle.dice_engine.proofs.lines.lines_of.Given as goal

abbrev pub invariant-loop-index : goal.invariant-loop-index
invariant-loop-index g l = AreLines g.U.Universe.meaning (take l.index l.journal.events) l.lines.items
