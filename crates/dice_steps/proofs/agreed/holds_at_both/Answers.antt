use Rattle.std.proofs.Common.{◌∙◌, sym}
use Rattle.std.specs.Arc.{arc_value}
use Rattle.versioned_graph.specs.Entries.{kept_of}
use Rattle.dice_steps.specs.Agreements.{HoldsAtBase}
use Rattle.dice_steps.proofs.agreed.holds_at_both.Goals as goal

pub returns-then-holds_at : goal.returns-then-holds_at
returns-then-holds_at g c on =
    let one = rw c.in-Some.is at c.asked_alone.ensures in
    let base : HoldsAtBase (kept_of c.in-Some-entry.entry.now) c.args.assignment.now c.args.batch.now = record { key = arc_value c.in-Some.key.now; base = c.in-Some.base; checks = one; holds = sym c.holds_at-then-holds_at.ensures ∙ on } in
    record { entry = kept_of c.in-Some-entry.entry.now; at_base = base; known = sym (rw c.in-Some-entry.is at c.entry.ensures); now = sym c.holds_at.ensures ∙ c.if-holds_at.true }
