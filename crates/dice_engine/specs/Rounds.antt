-- What a wait asks about: its promise's ask.
use Rattle.std.specs.Prelude.{◌≡◌, List, reverse, Some, None, Option}
use Rattle.std.specs.Arc.{arc_value}
use Rattle.journal.specs.declared.event.Told.{Told}
use Rattle.journal.specs.Events.{Opened, Asking, open_at, live_at}
use Rattle.dice_engine.specs.Replies.{Reply, settled_of}
use Rattle.dice_engine.specs.declared.promise.Promise.{Promise}
use Rattle.dice_engine.specs.declared.working.Round.{Round}
use Rattle.dice_engine.specs.declared.working.Round.TheVariants as round

module _ {U K V R : Type 0} where
  -- what a round tells of the promise, if it is settled
  abbrev pub settled_in : Round U K V R → Option (Reply K V)
  settled_in (round.Settled r) = Some (settled_of r)
  settled_in (round.Pending w) = None

  -- if the promise's ask is live in a journal, it is for the promise's key, and in its transaction at its version
  abbrev pub IsAskOf : Promise U K V R → List (Told K V) → Type 0
  IsAskOf p J = (a : Asking K) → live_at (reverse J) p.ask ≡ Some a
      → (a.opened ≡ p.opened) × (a.key ≡ arc_value p.key) × ((o : Opened) → open_at (reverse J) a.opened ≡ Some o → o.version ≡ p.version)
