use Rattle.std.proofs.Common.{◌∙◌, sym, ap}
use Rattle.std.specs.Arc.{arc_value}
use Rattle.std.specs.Option.{option_copied}
use Rattle.dice_steps.proofs.agreed.holds_at_base.Goals as goal

pub returns-in-Some-asked_alone : goal.returns-in-Some-asked_alone
returns-in-Some-asked_alone g c on =
    let one = rw c.in-Some-asked_alone.is at c.asked_alone.ensures in
    (c.in-Some.entry.now, ap option_copied c.in-Some.is, record { key = arc_value c.in-Some-asked_alone.field-0-0.now; base = c.in-Some-asked_alone.base; checks = one; holds = sym c.holds_at.ensures ∙ on })
