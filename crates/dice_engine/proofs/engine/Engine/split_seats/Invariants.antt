use Rattle.std.proofs.Common.{◌≡◌, ◌≤◌, ◌+◌, All, length}
use Rattle.dice_engine.specs.Seats.{IsSeatOf, spare}
use Rattle.dice_engine.specs.Seating.{GivesSeats, IsPlaceOf}
use Rattle.dice_engine.proofs.engine.Engine.split_seats.Given as goal

-- as many seats were split off as were counted, and numbers for the rest are left
abbrev pub invariant-loop : goal.invariant-loop
invariant-loop g l =
    (l.count ≤ l.counter + spare l.seat) ×
    GivesSeats l.initial.seat l.seat ×
    IsSeatOf l.self l.seat ×
    All (IsPlaceOf l.self) l.seats.items ×
    (length l.seats.items ≡ l.counter)
