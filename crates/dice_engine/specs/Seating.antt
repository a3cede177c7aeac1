-- What becomes of a seat that gives seats away, and what it gives to workers.
use Rattle.std.specs.Prelude.{◌≡◌, true}
use Rattle.turnstile.specs.Seats.{SeatView as Place}
use Rattle.dice_engine.specs.Seats.{EngineId, SeatView}

module _ {E : Type 0} where
  -- it has given numbers away, and is otherwise as before
  abbrev pub GivesSeats : SeatView E → SeatView E → Type 0
  GivesSeats s u = u ≡ record s { spare_start = u.spare_start }

  -- the place is at the turnstile of that engine, and outside a turn; a pass to the engine's line belongs to it
  abbrev pub IsPlaceOf : EngineId → Place E → Type 0
  IsPlaceOf engine s = (s.turnstile ≡ engine.turnstile) × (s.away ≡ true) × (s.mark ≡ engine.line.web)
