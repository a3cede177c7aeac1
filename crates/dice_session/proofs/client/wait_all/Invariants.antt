use Rattle.std.proofs.Common.{take}
use Rattle.std.specs.Arc.{arc_value}
use Rattle.std.specs.List.{AllZip}
use Rattle.dice_engine.specs.Turns.{log_of}
use Rattle.dice_session.specs.Sole.{Asks}
use Rattle.dice_session.specs.Session.{IsFound}
use Rattle.dice_session.proofs.client.wait_all.Given as goal

-- the promises before this one have come to something
abbrev pub invariant-loop-promise : goal.invariant-loop-promise
invariant-loop-promise g l =
    Asks l.engine l.initial.seat l.seat l.transaction.opened l.transaction.version ×
    AllZip (λ p f. IsFound g.U.Key.PartialEq.eq g.U.Universe.meaning (log_of l.initial.seat.seen) (arc_value p.key) f) (take l.promise-index l.promises) l.found.items
