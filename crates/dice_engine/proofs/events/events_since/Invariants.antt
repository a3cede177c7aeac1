use Rattle.std.proofs.Common.{◌≡◌, ◌++◌, map, drop}
use Rattle.journal.specs.Tell.{told}
use Rattle.dice_engine.proofs.events.events_since.Given as goal

-- the events before this index were copied
abbrev pub invariant-loop-index : goal.invariant-loop-index
invariant-loop-index g l = map told l.events.items ++ drop l.index l.journal.events ≡ drop l.start l.journal.events
