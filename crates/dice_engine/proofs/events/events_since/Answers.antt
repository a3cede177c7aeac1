use Rattle.std.proofs.Common.{rules, ◌≡◌, ◌+◌, ◌++◌, ◌∙◌, Some, map, drop, sym, ap, subst}
use Rattle.journal.specs.Tell.{told}
use Rattle.dice_engine.proofs.Listing.{copied_next}
use Rattle.dice_engine.proofs.events.events_since.Goals as goal

pub loop-index-preserved : goal.loop-index-preserved
loop-index-preserved g c =
    let J = c.args.journal.now.events in
    let i = c.loop-index.index in
    subst (λ es. map told es ++ drop (i + 1) J ≡ drop c.args.start J) (sym c.in_ok-push.ensures.items)
    (copied_next told c.loop-index.events.items J _ i c.in_ok-shared_event.field-0 (search rules) (c.event.ensures ∙ ap Some (sym c.in_ok-shared_event.ensures)) c.loop-index.invariant)
