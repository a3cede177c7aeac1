-- What contracts see of an event.
use Rattle.std.specs.Prelude.{ℕ, Option, Some, None}
use Rattle.std.specs.Arc.{arc_value}
use Rattle.journal.specs.declared.event.Cause.{Cause}
use Rattle.journal.specs.declared.event.Cause.TheVariants as cause
use Rattle.journal.specs.declared.event.Reason.{Reason}
use Rattle.journal.specs.declared.event.Reason.TheVariants as reason
use Rattle.journal.specs.declared.event.Event.{Event}
use Rattle.journal.specs.declared.event.Event.TheVariants as event
use Rattle.journal.specs.declared.event.Told.{Told}
use Rattle.journal.specs.declared.event.Told.TheVariants as bare

module _ {K : Type 0} where
  abbrev pub reason_of : Cause K → Reason K
  reason_of cause.New = reason.New
  reason_of (cause.Transient b) = reason.Transient b
  reason_of (cause.Differs b d) = reason.Differs b (arc_value d)

module _ {K V : Type 0} where
  -- the event without pointers
  abbrev pub told : Event K V → Told K V
  told (event.Commit by c) = bare.Commit by c
  told (event.Open by v) = bare.Open by v
  told (event.Close by t) = bare.Close by t
  told (event.Ask by t k) = bare.Ask by t (arc_value k)
  told (event.Leave by a) = bare.Leave by a
  told (event.Start v k c) = bare.Start v (arc_value k) (reason_of c)
  told (event.Keep v k b) = bare.Keep v (arc_value k) b
  told (event.End v k) = bare.End v (arc_value k)
  told (event.Cyclic v k) = bare.Cyclic v (arc_value k)
  told (event.Drop v k) = bare.Drop v (arc_value k)
  told (event.Lost v k) = bare.Lost v (arc_value k)

  -- the number of the seat that acts, if one does
  abbrev pub event_by : Told K V → Option ℕ
  event_by (bare.Commit by c) = Some by
  event_by (bare.Open by v) = Some by
  event_by (bare.Close by t) = Some by
  event_by (bare.Ask by t k) = Some by
  event_by (bare.Leave by a) = Some by
  event_by (bare.Start v k c) = None
  event_by (bare.Keep v k b) = None
  event_by (bare.End v k) = None
  event_by (bare.Cyclic v k) = None
  event_by (bare.Drop v k) = None
  event_by (bare.Lost v k) = None
