use Rattle.std.proofs.Common.{◌≡◌}
use Rattle.turnstile.specs.Steps.{IsSameSeat}
use Rattle.turnstile.proofs.table.Turnstile.wait_turn.Given as goal

abbrev pub invariant-loop : goal.invariant-loop
invariant-loop g l = IsSameSeat l.initial.seat l.seat × (l.seat.me ≡ l.initial.seat.me)
