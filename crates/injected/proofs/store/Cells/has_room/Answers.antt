-- If there is a history its room tells.
use Rattle.std.proofs.Common.{◌∙◌, ltb, ap, sym}
use Rattle.std.specs.Option.{option_copied}
use Rattle.injected.specs.Seen.{room_in}
use Rattle.injected.proofs.store.Cells.has_room.Goals as goal

pub returns-in-Some : goal.returns-in-Some
returns-in-Some g c =
    ap (ltb 0) (c.room.ensures ∙ ap room_in (sym (ap option_copied c.in-Some.is) ∙ c.history.ensures.cell))

pub returns-in-None : goal.returns-in-None
returns-in-None g c =
    ap (λ h. ltb 0 (room_in h)) (sym (ap option_copied c.in-None.is) ∙ c.history.ensures.cell)
