use Rattle.std.proofs.Common.{take}
use Rattle.std.specs.Arc.{arc_value}
use Rattle.std.specs.List.{AllZip}
use Rattle.dice_session.specs.Sole.{Asks, IsAsked}
use Rattle.dice_session.proofs.client.ask_all.Given as goal

-- the keys before this one were asked for
abbrev pub invariant-loop-key : goal.invariant-loop-key
invariant-loop-key g l =
    Asks l.engine l.initial.seat l.seat l.transaction.opened l.transaction.version ×
    AllZip (λ k p. IsAsked l.seat l.transaction.opened l.transaction.version (arc_value k) p) (take l.key-index l.keys) l.promises.items
